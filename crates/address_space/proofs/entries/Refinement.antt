-- The spaces that a map from slots to page entries represents, given bytes for each frame; its steps are the machine's.
use Rattle.address_space.proofs.Prelude.{◌≡◌, ℕ, inl, inr, Bool, true, false, cond, not, ◌||◌, ◌==◌, List, refl, sym, ap, ◌∙◌, Option, Some, None, arith, ◌&&◌, if◌then◌else◌, is_some, unwrap_or, option_map, Map, same, Set, Slot, slot_order, Cell, Spaces, write_at, stored, joined, set_bytes, set_holders, store_in, with_bytes, with_holders, without, fresh, cell_or_fresh, join_in, zeros, same_or_not, get-insert, get-retain_keys, same_map, get-map_values, contains-insert, contains-retain, same_set, nat_eq_equiv, PageEntry, with_frame, Entries, names, nothing, holders_of, group_of, cell_of, spaces_of, eqb-true, eq-eqb, and-false, and-true}
use Rattle.page_words.specs.FiniteMap as map
use Rattle.page_words.specs.FiniteSet as set

pub contains-holders_of : (entries : Entries) (f : ℕ) (slot : Slot) → set.contains (holders_of entries f) slot ≡ names f (map.get entries slot)
contains-holders_of entries f slot =
    contains-retain (map.map_values nothing entries) (λ s. names f (map.get entries s)) slot
    ∙ ap (λ x. is_some x && names f (map.get entries slot)) (get-map_values slot_order nothing entries slot)
    ∙ (grind arith)

-- two maps name each frame at the same slots
pub same_holders : (d e : Entries) (f : ℕ) → ((slot : Slot) → names f (map.get d slot) ≡ names f (map.get e slot)) → holders_of d f ≡ holders_of e f
same_holders d e f is = same_set _ _ (λ s. contains-holders_of d f s ∙ is s ∙ sym (contains-holders_of e f s))

pub get-spaces_of : (entries : Entries) (bytes : ℕ → List ℕ) (slot : Slot) → map.get (spaces_of entries bytes) slot ≡ option_map (cell_of entries bytes slot) (map.get entries slot)
get-spaces_of entries bytes slot = get-map_values slot_order (cell_of entries bytes) entries slot

-- a frame that isn't frame 0 has its slots as group
pub group-real : (entries : Entries) (slot : Slot) (f : ℕ) → (f == 0) ≡ false → group_of entries slot f ≡ holders_of entries f
group-real entries slot f real = ap (λ b. if b then set.insert set.empty slot else holders_of entries f) real

-- a group stays where the slots of its frame do
pub group-kept : (d e : Entries) (slot : Slot) (f : ℕ) → ((f == 0) ≡ false → holders_of e f ≡ holders_of d f) → group_of e slot f ≡ group_of d slot f
group-kept d e slot f is = grind arith

-- spaces after an entry was put in: its own cell, and what each other slot has
pub spaces_insert : (entries : Entries) (bytes : ℕ → List ℕ) (slot : Slot) (new : PageEntry) (rest : Spaces) (own : Cell) → cell_of (map.insert entries slot new) bytes slot new ≡ own
    → ((q : Slot) (x : Option PageEntry) → map.get entries q ≡ x → option_map (cell_of (map.insert entries slot new) bytes q) x ≡ map.get rest q)
    → spaces_of (map.insert entries slot new) bytes ≡ map.insert rest slot own
spaces_insert entries bytes slot new rest own mine others =
    let entries' : Entries = map.insert entries slot new in
    same_map _ _ (λ q.
    get-spaces_of entries' bytes q ∙ ap (option_map (cell_of entries' bytes q)) (get-insert entries slot new q)
    ∙ elim (same_or_not slot_order q slot) [
      | inl h ↦ ap (λ b. option_map (cell_of entries' bytes q) (cond b (Some new) (map.get entries q))) h.1 ∙ ap Some (ap (λ s. cell_of entries' bytes s new) h.0 ∙ mine) ∙ sym (ap (λ b. cond b (Some own) (map.get rest q)) h.1)
      | inr h ↦ ap (λ b. option_map (cell_of entries' bytes q) (cond b (Some new) (map.get entries q))) h ∙ others q (map.get entries q) refl ∙ sym (ap (λ b. cond b (Some own) (map.get rest q)) h)
    ]
    ∙ sym (get-insert rest slot own q))

eqb_itself : (n : ℕ) → (n == n) ≡ true
eqb_itself n = eq-eqb n n refl

-- ---- A store

-- an entry after a store: its frame stays
abbrev pub stored_entry : PageEntry → PageEntry
stored_entry e = record e { accessed = true; dirty = true }

-- an entry that keeps its frame keeps each frame's slots
pub names-insert_same : (entries : Entries) (slot : Slot) (old new : PageEntry) → map.get entries slot ≡ Some old → new.frame ≡ old.frame
    → (f : ℕ) (q : Slot) → names f (map.get (map.insert entries slot new) q) ≡ names f (map.get entries q)
names-insert_same entries slot old new found kept f q = grind (arith, get-insert, same_or_not)

-- the cell of an entry
pub cell_at : (entries : Entries) (bytes : ℕ → List ℕ) (slot : Slot) (e : PageEntry) → map.get entries slot ≡ Some e → cell_or_fresh (spaces_of entries bytes) slot ≡ cell_of entries bytes slot e
cell_at entries bytes slot e found = ap (λ c. unwrap_or c (fresh slot true)) (get-spaces_of entries bytes slot ∙ ap (option_map (cell_of entries bytes slot)) found)

-- where the other slots keep their groups, an entry that is put in changes its own cell alone
spaces_kept : (entries : Entries) (bytes : ℕ → List ℕ) (slot : Slot) (new : PageEntry) (own : Cell) → cell_of (map.insert entries slot new) bytes slot new ≡ own
    → ((q : Slot) (d : PageEntry) → map.get entries q ≡ Some d → group_of (map.insert entries slot new) q d.frame ≡ group_of entries q d.frame)
    → spaces_of (map.insert entries slot new) bytes ≡ map.insert (spaces_of entries bytes) slot own
spaces_kept entries bytes slot new own mine kept =
    spaces_insert entries bytes slot new (spaces_of entries bytes) own mine (λ q x is. (grind arith) ∙ sym (get-spaces_of entries bytes q ∙ ap (option_map (cell_of entries bytes q)) is))

-- storing into the frame of a slot changes its group as the machine says
pub store_refines : (entries : Entries) (bytes : ℕ → List ℕ) (slot : Slot) (e : PageEntry) (at : ℕ) (new : List ℕ) → map.get entries slot ≡ Some e → (e.frame == 0) ≡ false
    → spaces_of (map.insert entries slot (stored_entry e)) (with_frame bytes e.frame (write_at (bytes e.frame) at new)) ≡ stored (spaces_of entries bytes) slot at new
store_refines entries bytes slot e at new found real =
    let after : List ℕ = write_at (bytes e.frame) at new in
    let entries' : Entries = map.insert entries slot (stored_entry e) in
    let bytes' : ℕ → List ℕ = with_frame bytes e.frame after in
    let cell : Cell = cell_of entries bytes slot e in
    let kept : (q : Slot) (f : ℕ) → group_of entries' q f ≡ group_of entries q f = λ q f. group-kept entries entries' q f (λ _. same_holders _ _ f (names-insert_same entries slot e (stored_entry e) found refl f)) in
    let f : Slot → Cell → Cell = λ q c. if set.contains cell.holders q then with_bytes c after else c in
    let held : (q : Slot) → set.contains cell.holders q ≡ names e.frame (map.get entries q) = λ q. ap (λ g. set.contains g q) (group-real entries slot e.frame real) ∙ contains-holders_of entries e.frame q in
    let others : (q : Slot) (x : Option PageEntry) → map.get entries q ≡ x → option_map (cell_of entries' bytes' q) x ≡ option_map (f q) (option_map (cell_of entries bytes q) x) = λ q x. elim x as (λ x. map.get entries q ≡ x → option_map (cell_of entries' bytes' q) x ≡ option_map (f q) (option_map (cell_of entries bytes q) x)) [
      | None ↦ λ _. refl
      | Some d ↦ grind arith
    ] in
    spaces_insert entries bytes' slot (stored_entry e) (set_bytes (spaces_of entries bytes) cell.holders after) (record cell { bytes = after; accessed = true; dirty = true })
    (λ i. record { write = e.write; may = e.may; accessed = true; dirty = true; bytes = if eqb_itself e.frame i then after else bytes e.frame; holders = kept slot e.frame i })
    (λ q x is. others q x is ∙ sym (get-map_values slot_order f (spaces_of entries bytes) q ∙ ap (option_map (f q)) (get-spaces_of entries bytes q ∙ ap (option_map (cell_of entries bytes q)) is)))
    ∙ sym (ap (λ (c : Cell). store_in (spaces_of entries bytes) slot c (write_at c.bytes at new)) (cell_at entries bytes slot e found))

-- ---- A slot joins

-- what names a frame after a new slot has been given an entry: the slot too, where the entry names that frame
pub names-insert : (entries : Entries) (slot : Slot) (new : PageEntry) (f : ℕ) (q : Slot)
    → names f (map.get (map.insert entries slot new) q) ≡ cond (same slot_order q slot) (new.frame == f) (names f (map.get entries q))
names-insert entries slot new f q = grind (arith, get-insert)

-- the frame of the new entry has that slot more
pub holders-insert : (entries : Entries) (slot : Slot) (new : PageEntry) → holders_of (map.insert entries slot new) new.frame ≡ set.insert (holders_of entries new.frame) slot
holders-insert entries slot new =
    same_set _ _ (λ q.
    contains-holders_of (map.insert entries slot new) new.frame q ∙ names-insert entries slot new new.frame q
    ∙ ap (λ b. cond (same slot_order q slot) b (names new.frame (map.get entries q))) (eqb_itself new.frame)
    ∙ (grind arith)
    ∙ ap (λ b. same slot_order q slot || b) (sym (contains-holders_of entries new.frame q))
    ∙ sym (contains-insert (holders_of entries new.frame) slot q))

-- any other frame keeps its slots, where the slot had no entry that names it
pub holders-other : (entries : Entries) (slot : Slot) (new : PageEntry) (f : ℕ) → names f (map.get entries slot) ≡ false → (new.frame == f) ≡ false → holders_of (map.insert entries slot new) f ≡ holders_of entries f
holders-other entries slot new f none apart =
    same_holders (map.insert entries slot new) entries f (λ q. names-insert entries slot new f q
    ∙ elim (same_or_not slot_order q slot) [
      | inl h ↦ rw h.1 (apart ∙ sym (ap (names f) (ap (map.get entries) h.0) ∙ none))
      | inr h ↦ rw h refl
    ])

-- a slot without an entry gets one on the frame of another: it joins that one's group as the machine says
pub join_refines : (entries : Entries) (bytes : ℕ → List ℕ) (giver slot : Slot) (e : PageEntry) (right : Bool) → map.get entries giver ≡ Some e → (e.frame == 0) ≡ false → map.get entries slot ≡ None
    → spaces_of (map.insert entries slot (record { frame = e.frame; write = right; may = right; accessed = false; dirty = false; lazy = false })) bytes ≡ joined (spaces_of entries bytes) giver slot right
join_refines entries bytes giver slot e right found real none =
    let new : PageEntry = record { frame = e.frame; write = right; may = right; accessed = false; dirty = false; lazy = false } in
    let entries' : Entries = map.insert entries slot new in
    let cell : Cell = cell_of entries bytes giver e in
    let holders : Set slot_order = set.insert cell.holders slot in
    let same_group : cell.holders ≡ holders_of entries e.frame = group-real entries giver e.frame real in
    let more : holders_of entries' e.frame ≡ holders = holders-insert entries slot new ∙ ap (λ g. set.insert g slot) (sym same_group) in
    let f : Slot → Cell → Cell = λ q c. if set.contains cell.holders q then with_holders c holders else c in
    let own : Cell = record { write = right; may = right; accessed = false; dirty = false; bytes = cell.bytes; holders = holders } in
    let group : (q : Slot) (d : PageEntry) (b : Bool) → (d.frame == e.frame) ≡ b → cell_of entries' bytes q d ≡ (if b then with_holders (cell_of entries bytes q d) holders else cell_of entries bytes q d) = λ q d b. elim b as (λ b. (d.frame == e.frame) ≡ b → cell_of entries' bytes q d ≡ (if b then with_holders (cell_of entries bytes q d) holders else cell_of entries bytes q d)) [
      | true ↦ λ is. ap (with_holders (cell_of entries bytes q d)) (ap (group_of entries' q) (eqb-true d.frame e.frame is) ∙ group-real entries' q e.frame real ∙ more)
      | false ↦ λ is. ap (with_holders (cell_of entries bytes q d)) (group-kept entries entries' q d.frame (λ _. holders-other entries slot new d.frame (ap (names d.frame) none) (nat_eq_equiv.symm e.frame d.frame ∙ is)))
    ] in
    let held : (q : Slot) → set.contains cell.holders q ≡ names e.frame (map.get entries q) = λ q. ap (λ g. set.contains g q) same_group ∙ contains-holders_of entries e.frame q in
    let others : (q : Slot) (x : Option PageEntry) → map.get entries q ≡ x → option_map (cell_of entries' bytes q) x ≡ option_map (f q) (option_map (cell_of entries bytes q) x) = λ q x. elim x as (λ x. map.get entries q ≡ x → option_map (cell_of entries' bytes q) x ≡ option_map (f q) (option_map (cell_of entries bytes q) x)) [
      | None ↦ λ _. refl
      | Some d ↦ grind arith
    ] in
    spaces_insert entries bytes slot new (set_holders (spaces_of entries bytes) cell.holders holders) own
    (λ i. record own { holders = (group-real entries' slot e.frame real ∙ more) i })
    (λ q x is. others q x is ∙ sym (get-map_values slot_order f (spaces_of entries bytes) q ∙ ap (option_map (f q)) (get-spaces_of entries bytes q ∙ ap (option_map (cell_of entries bytes q)) is)))
    ∙ sym (ap (λ (c : Cell). join_in (spaces_of entries bytes) c slot right) (cell_at entries bytes giver e found))

-- ---- Slots that leave

-- the entries of some slots go: the slots leave their groups as the machine says
pub leave_refines : (entries : Entries) (bytes : ℕ → List ℕ) (gone : Slot → Bool) → spaces_of (map.retain_keys entries (λ s. not (gone s))) bytes ≡ without (spaces_of entries bytes) gone
leave_refines entries bytes gone =
    let kept : Slot → Bool = λ s. not (gone s) in
    let entries' : Entries = map.retain_keys entries kept in
    let fewer : (f : ℕ) → holders_of entries' f ≡ set.retain (holders_of entries f) kept = λ f. same_set (holders_of entries' f) (set.retain (holders_of entries f) kept) (λ q.
    contains-holders_of entries' f q ∙ ap (names f) (get-retain_keys entries kept q) ∙ (grind (arith, and-true, and-false))
    ∙ ap (λ b. b && kept q) (sym (contains-holders_of entries f q)) ∙ sym (contains-retain (holders_of entries f) kept q)) in
    let f : Slot → Cell → Cell = λ q c. with_holders c (set.retain c.holders kept) in
    let alone : (q : Slot) → kept q ≡ true → set.insert set.empty q ≡ set.retain (set.insert set.empty q) kept = λ q stays. same_set (set.insert set.empty q) (set.retain (set.insert set.empty q) kept) (λ s.
    elim (same_or_not slot_order s q) [
      | inl h ↦ grind (arith, contains-insert, contains-retain)
      | inr h ↦ grind (arith, contains-insert, contains-retain)
    ]) in
    let group : (q : Slot) (d : PageEntry) (b : Bool) → (d.frame == 0) ≡ b → kept q ≡ true → group_of entries' q d.frame ≡ set.retain (group_of entries q d.frame) kept = λ q d b. elim b as (λ b. (d.frame == 0) ≡ b → kept q ≡ true → group_of entries' q d.frame ≡ set.retain (group_of entries q d.frame) kept) [
      | true ↦ λ zero stays. ap (λ b. if b then set.insert set.empty q else holders_of entries' d.frame) zero ∙ alone q stays
          ∙ sym (ap (λ b. set.retain (if b then set.insert set.empty q else holders_of entries d.frame) kept) zero)
      | false ↦ λ real stays. group-real entries' q d.frame real ∙ fewer d.frame ∙ sym (ap (λ g. set.retain g kept) (group-real entries q d.frame real))
    ] in
    let each : (q : Slot) (x : Option PageEntry) (b : Bool) → kept q ≡ b → cond b (option_map (cell_of entries' bytes q) x) None ≡ cond b (option_map (f q) (option_map (cell_of entries bytes q) x)) None = λ q x b. elim b as (λ b. kept q ≡ b → cond b (option_map (cell_of entries' bytes q) x) None ≡ cond b (option_map (f q) (option_map (cell_of entries bytes q) x)) None) [
      | true ↦ λ stays. elim x as (λ x. option_map (cell_of entries' bytes q) x ≡ option_map (f q) (option_map (cell_of entries bytes q) x)) [
        | None ↦ refl
        | Some d ↦ ap (λ h. Some (with_holders (cell_of entries bytes q d) h)) (group q d (d.frame == 0) refl stays)
      ]
      | false ↦ λ _. refl
    ] in
    same_map _ _ (λ q.
    get-spaces_of entries' bytes q ∙ ap (option_map (cell_of entries' bytes q)) (get-retain_keys entries kept q)
    ∙ (grind arith)
    ∙ each q (map.get entries q) (kept q) refl ∙ ap (λ x. cond (kept q) (option_map (f q) x) None) (sym (get-spaces_of entries bytes q))
    ∙ sym (grind arith)
    ∙ ap (option_map (f q)) (sym (get-retain_keys (spaces_of entries bytes) kept q))
    ∙ sym (get-map_values slot_order f (map.retain_keys (spaces_of entries bytes) kept) q))

-- ---- Flags of one entry

-- an entry that keeps its frame changes its own cell's flags alone
pub flags_refine : (entries : Entries) (bytes : ℕ → List ℕ) (slot : Slot) (old new : PageEntry) → map.get entries slot ≡ Some old → new.frame ≡ old.frame
    → spaces_of (map.insert entries slot new) bytes ≡ map.insert (spaces_of entries bytes) slot (record (cell_or_fresh (spaces_of entries bytes) slot) { write = new.write; may = new.may; accessed = new.accessed; dirty = new.dirty })
flags_refine entries bytes slot old new found same_frame =
    let entries' : Entries = map.insert entries slot new in
    let kept : (q : Slot) (f : ℕ) → group_of entries' q f ≡ group_of entries q f = λ q f. group-kept entries entries' q f (λ _. same_holders entries' entries f (names-insert_same entries slot old new found same_frame f)) in
    let flagged : Cell → Cell = λ c. record c { write = new.write; may = new.may; accessed = new.accessed; dirty = new.dirty } in
    grind (arith, spaces_kept, cell_at)

-- ---- A fresh page, and one that gets its frame

-- no entry names the frame
abbrev pub Unused : Entries → ℕ → Type 0
Unused entries f = (q : Slot) → names f (map.get entries q) ≡ false

-- groups stay where an entry is put in on a frame that nothing named, or on frame 0, in place of none or of a lazy one
groups-stay : (entries : Entries) (slot : Slot) (new : PageEntry) → ((f : ℕ) → (f == 0) ≡ false → (names f (map.get entries slot) ≡ false)) → (d : PageEntry) → ((d.frame == 0) ≡ false → (new.frame == d.frame) ≡ false)
    → (q : Slot) → group_of (map.insert entries slot new) q d.frame ≡ group_of entries q d.frame
groups-stay entries slot new nowhere d apart q = group-kept entries (map.insert entries slot new) q d.frame (λ real. holders-other entries slot new d.frame (nowhere d.frame real) (apart real))

-- a slot gets an entry in a group of its own, on a frame that nothing names or on frame 0
pub lone_refines : (entries : Entries) (bytes : ℕ → List ℕ) (slot : Slot) (new : PageEntry) → ((f : ℕ) → (f == 0) ≡ false → names f (map.get entries slot) ≡ false)
    → group_of (map.insert entries slot new) slot new.frame ≡ set.insert set.empty slot → ((q : Slot) (d : PageEntry) → map.get entries q ≡ Some d → (d.frame == 0) ≡ false → (new.frame == d.frame) ≡ false)
    → spaces_of (map.insert entries slot new) bytes ≡ map.insert (spaces_of entries bytes) slot (record { write = new.write; may = new.may; accessed = new.accessed; dirty = new.dirty; bytes = bytes new.frame; holders = set.insert set.empty slot })
lone_refines entries bytes slot new nowhere alone apart = grind (arith, spaces_kept, groups-stay)

-- a slot without an entry gets a lazy one: it has a fresh page
pub lazy_refines : (entries : Entries) (bytes : ℕ → List ℕ) (slot : Slot) (write : Bool) → map.get entries slot ≡ None → bytes 0 ≡ zeros
    → spaces_of (map.insert entries slot (record { frame = 0; write = write; may = true; accessed = false; dirty = false; lazy = true })) bytes ≡ map.insert (spaces_of entries bytes) slot (fresh slot write)
lazy_refines entries bytes slot write none clean = grind (arith, lone_refines)

-- the group of a slot whose entry is on frame 0
pub alone_lazy : (entries : Entries) (slot : Slot) (f : ℕ) → f ≡ 0 → group_of entries slot f ≡ set.insert set.empty slot
alone_lazy entries slot f zero = ap (group_of entries slot) zero

-- and of one whose entry is on a frame that nothing named
pub alone_real : (entries : Entries) (slot : Slot) (new : PageEntry) → Unused entries new.frame → (new.frame == 0) ≡ false → group_of (map.insert entries slot new) slot new.frame ≡ set.insert set.empty slot
alone_real entries slot new unused real =
    group-real (map.insert entries slot new) slot new.frame real ∙ holders-insert entries slot new
    ∙ ap (λ s. set.insert s slot) (same_set (holders_of entries new.frame) set.empty (λ q. contains-holders_of entries new.frame q ∙ unused q))

-- what stands at a key already
pub insert_there : {X : Type 0} (m : Map slot_order X) (slot : Slot) (x : X) → map.get m slot ≡ Some x → map.insert m slot x ≡ m
insert_there m slot x there = same_map _ _ (λ q. get-insert m slot x q
    ∙ elim (same_or_not slot_order q slot) [
      | inl h ↦ ap (λ b. cond b (Some x) (map.get m q)) h.1 ∙ sym (ap (map.get m) h.0 ∙ there)
      | inr h ↦ ap (λ b. cond b (Some x) (map.get m q)) h
    ])

-- a lazy page gets a frame of zeros that nothing names: the spaces stay
pub fill_refines : (entries : Entries) (bytes : ℕ → List ℕ) (slot : Slot) (e : PageEntry) (f : ℕ) → map.get entries slot ≡ Some e → e.frame ≡ 0 → Unused entries f → (f == 0) ≡ false → bytes 0 ≡ zeros → bytes f ≡ zeros
    → spaces_of (map.insert entries slot (record e { frame = f; lazy = false })) bytes ≡ spaces_of entries bytes
fill_refines entries bytes slot e f found lazy unused real zero clean =
    let new : PageEntry = record e { frame = f; lazy = false } in
    let nowhere : (g : ℕ) → (g == 0) ≡ false → names g (map.get entries slot) ≡ false = λ g other. ap (names g) found ∙ ap (λ n. n == g) lazy ∙ nat_eq_equiv.symm 0 g ∙ other in
    let before : group_of entries slot e.frame ≡ set.insert set.empty slot = ap (group_of entries slot) lazy in
    lone_refines entries bytes slot new nowhere (alone_real entries slot new unused real) (λ q d is _. nat_eq_equiv.symm f d.frame ∙ sym (ap (names f) is) ∙ unused q)
    ∙ ap (map.insert (spaces_of entries bytes) slot) (λ i. record { write = e.write; may = e.may; accessed = e.accessed; dirty = e.dirty; bytes = (clean ∙ sym (ap bytes lazy ∙ zero)) i; holders = sym before i })
    ∙ insert_there (spaces_of entries bytes) slot (cell_of entries bytes slot e) (get-spaces_of entries bytes slot ∙ ap (option_map (cell_of entries bytes slot)) found)

-- ---- Groups
