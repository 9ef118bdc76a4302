-- Entries on the same frame, and in the same table, after a change.
use Rattle.address_space.proofs.Prelude.{arith, subst, ◌≡◌, ℕ, false, cond, ap, sym, ◌∙◌, inl, inr, Some, None, none_goes, Gone, of_page, of_lazy, entry_frame, EntriesStay, PlacesStay, slot_table, option_map, get-insert, same_or_not, same_itself, PageEntry, Slot, slot_order, at_page, Entries, slot_number, Frames, Directories, table_in, entries_in, eq-eqb}
use Rattle.address_space.proofs.entries.EntrySteps.{get-entries_in, entry_by_table}
use Rattle.address_space.proofs.entries.Removal.{kept_other}
use Rattle.page_words.specs.FiniteMap as map

pub stay_same : (gone : Gone) (old new : Entries) → new ≡ old → EntriesStay gone old new
stay_same gone old new is slot f stays names = ap (λ E. entry_frame E slot) is ∙ names

pub stay_then : (gone : Gone) (a b c : Entries) → EntriesStay gone a b → EntriesStay gone b c → EntriesStay gone a c
stay_then gone a b c first second slot f stays names = second slot f stays (first slot f stays names)

-- an entry was put on the frame that it names
pub stay_put : (gone : Gone) (E : Entries) (slot : Slot) (e e' : PageEntry) → map.get E slot ≡ Some e
    → e'.frame ≡ e.frame → EntriesStay gone E (map.insert E slot e')
stay_put gone E slot e e' there kept q f stays names = grind (arith, option_map, get-insert, same_or_not, slot_order)

-- an entry was put where none was
pub stay_new : (gone : Gone) (E : Entries) (slot : Slot) (e : PageEntry) → map.get E slot ≡ None
    → EntriesStay gone E (map.insert E slot e)
stay_new gone E slot e none q f stays names = grind (arith, option_map, get-insert, same_or_not, slot_order)

-- a lazy page's entry was put on another frame
pub stay_filled : (E : Entries) (p page : ℕ) (e e' : PageEntry) → map.get E (at_page p page) ≡ Some e → e.frame ≡ 0
    → EntriesStay (of_lazy p page) E (map.insert E (at_page p page) e')
stay_filled E p page e e' there zero q f stays names =
    ap (option_map (λ (x : PageEntry). x.frame)) (get-insert E (at_page p page) e' q)
    ∙ elim (same_or_not slot_order q (at_page p page)) [
      | inl h ↦ grind (arith, same_itself, eq-eqb)
      | inr h ↦ ap (λ b. option_map (λ (x : PageEntry). x.frame) (cond b (Some e') (map.get E q))) h ∙ names
    ]

-- a page's entry went
pub stay_removed : (E : Entries) (p page : ℕ) → EntriesStay (of_page p page) E (map.remove E (at_page p page))
stay_removed E p page q f stays names = grind (arith, option_map, kept_other, at_page)

-- ---- With their tables

-- where each table that was there is there
pub places_by : (gone : Gone) (D : Directories) (m : Frames) (D' : Directories) (m' : Frames)
    → EntriesStay gone (entries_in D m) (entries_in D' m')
    → ((q r t : ℕ) → table_in D m q r ≡ Some t → table_in D' m' q r ≡ Some t) → PlacesStay gone D m D' m'
places_by gone D m D' m' entries tables = grind (arith, slot_number)

-- where an entry was put where none was, and where one was put on the frame that it names
pub places_new : (D : Directories) (m : Frames) (D' : Directories) (m' : Frames) (slot : Slot) (e : PageEntry) → map.get (entries_in D m) slot ≡ None
    → entries_in D' m' ≡ map.insert (entries_in D m) slot e → ((q r t : ℕ) → table_in D m q r ≡ Some t → table_in D' m' q r ≡ Some t) → PlacesStay none_goes D m D' m'
places_new D m D' m' slot e none is = places_by none_goes D m D' m' (subst (EntriesStay none_goes (entries_in D m)) (sym is) (stay_new none_goes (entries_in D m) slot e none))

pub places_put : (D : Directories) (m : Frames) (D' : Directories) (m' : Frames) (slot : Slot) (e e' : PageEntry) → map.get (entries_in D m) slot ≡ Some e → e'.frame ≡ e.frame
    → entries_in D' m' ≡ map.insert (entries_in D m) slot e' → ((q r t : ℕ) → table_in D m q r ≡ Some t → table_in D' m' q r ≡ Some t) → PlacesStay none_goes D m D' m'
places_put D m D' m' slot e e' there kept is = places_by none_goes D m D' m' (subst (EntriesStay none_goes (entries_in D m)) (sym is) (stay_put none_goes (entries_in D m) slot e e' there kept))

pub places_then : (gone : Gone) (D : Directories) (m : Frames) (D' : Directories) (m' : Frames) (D'' : Directories)
    (m'' : Frames) → PlacesStay gone D m D' m' → PlacesStay gone D' m' D'' m'' → PlacesStay gone D m D'' m''
places_then gone D m D' m' D'' m'' first second = grind (arith, stay_then, entries_in)

-- after a table was made ready, which changes no entry
pub places_ready : (gone : Gone) (D : Directories) (m m' m'' : Frames) → entries_in D m' ≡ entries_in D m
    → ((q r t : ℕ) → table_in D m q r ≡ Some t → table_in D m' q r ≡ Some t) → PlacesStay gone D m' D m''
    → PlacesStay gone D m D m''
places_ready gone D m m' m'' entries tables = grind (arith, places_then, places_by, stay_same, entries_in)

-- where fewer go
pub places_more : (gone gone' : Gone) (D : Directories) (m : Frames) (D' : Directories) (m' : Frames)
    → ((slot : Slot) (frame : ℕ) → gone slot frame ≡ false → gone' slot frame ≡ false)
    → PlacesStay gone' D m D' m' → PlacesStay gone D m D' m'
places_more gone gone' D m D' m' fewer places = grind arith

-- a slot without a table has no entry
pub entry_needs_table : (D : Directories) (m : Frames) (q : Slot) (f : ℕ) → slot_table D m q ≡ None
    → entry_frame (entries_in D m) q ≡ Some f → ⊥
entry_needs_table D m q f none names = grind (arith, entry_by_table, get-entries_in)
