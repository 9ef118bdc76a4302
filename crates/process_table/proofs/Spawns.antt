-- What the test of a spawn answers, and what a child's charge is.
use Rattle.process_table.proofs.Prelude.{◌≡◌, ◌≢◌, ℕ, ◌+◌, ◌-◌, ◌<◌, ◌≤◌, ◌==◌, Bool, true, false, cond, refl, sym, ap, ◌∙◌, inl, inr, List, [], ◌∷◌, Option, Some, None, unwrap_or, is_some, is_none, length, Ok, Err, arith, Result, if◌then◌else◌, nat_lt, option_map, same, nat_order, same_or_not, same_itself, get-insert, Spaces, cost, at_page, directory_of, total_cost, Member, given, quota_of, next_number, Containers, IsLive, used_of, total_used, split_answer, after_split, room_of, fitting, opening, Offers, room, child_of, container_of, spawn_refusal, state_of, IsProcesses, Cause, not-true, Image, directory_at, image_of, translated, child_unless, spawn_answer, find}
use Rattle.page_words.specs.declared.addresses.Pid.{Pid}
use Rattle.address_space.specs.Image.{StandsFor}
use Rattle.quota_tree.specs.declared.QuotaFault.{QuotaFault}
use Rattle.process_table.proofs.Lemmas.{differ, room-for, found, cost-no_pages}
use Rattle.page_words.specs.FiniteMap as map
use Rattle.address_space.specs.View as frames
use Rattle.quota_tree.specs.declared.QuotaFault.TheVariants as quota
use Rattle.quota_tree.specs.Containers as quotas
use Rattle.process_table.specs.declared.causes.Cause.TheVariants as cause

abbrev refused : Bool → Option ℕ → Bool → Option Cause
refused none next over = if none then Some cause.BadQuota else if is_none next then Some cause.TableFull else if over then Some cause.Quota else None

-- the test of a spawn answers as the quotas do
pub spawn-split : (v : frames.View) (c : Containers) (o : Offers) (p asked : ℕ) → IsProcesses v c → IsLive c p → spawn_answer (state_of v c o) p asked ≡ translated (split_answer c p asked)
spawn-split v c o p asked kept live =
    ap (λ b. child_unless (if b then spawn_refusal (state_of v c o) p asked else Some cause.NoProcess) (unwrap_or (next_number c.book) 0)) live
    ∙ ap (λ r. child_unless (refused (asked == 0) (next_number c.book) (nat_lt r asked)) (unwrap_or (next_number c.book) 0)) (sym (ap (λ u. quota_of c.book p - u - given c.book p) (kept.charged p live)))
    ∙ by (asked == 0) (next_number c.book) (nat_lt (room_of c p) asked) refl
  where
    by : (b : Bool) (next : Option ℕ) (over : Bool) → nat_lt (room_of c p) asked ≡ over
        → child_unless (refused b next over) (unwrap_or next 0) ≡ translated (if b then Err quota.BadQuota else fitting c p asked next)
    by b next over is = grind arith

-- where a spawn may be, its process is live, and the quotas' split has that child
pub spawn-may : (v : frames.View) (c : Containers) (o : Offers) (p asked child : ℕ) → IsProcesses v c → spawn_answer (state_of v c o) p asked ≡ Ok child → (IsLive c p) × (split_answer c p asked ≡ Ok child)
spawn-may v c o p asked child kept is = by (map.contains_key c.book p) refl is
  where
    whole : (r : Result Pid QuotaFault) → translated r ≡ Ok child → r ≡ Ok child
    whole r h = grind arith

    by : (b : Bool) → map.contains_key c.book p ≡ b → child_unless (if b then spawn_refusal (state_of v c o) p asked else Some cause.NoProcess) (child_of (state_of v c o)) ≡ Ok child → (IsLive c p) × (split_answer c p asked ≡ Ok child)
    by true live h = (live, whole (split_answer c p asked) (sym (spawn-split v c o p asked kept live) ∙ is))
    by false dead h = cc

-- ---- The child's number

-- a child that a split gives has the next number
next-of : (c : Containers) (p asked child : ℕ) → split_answer c p asked ≡ Ok child → next_number c.book ≡ Some child
next-of c p asked child h = by (asked == 0) (next_number c.book) refl h
  where
    by : (b : Bool) (o : Option ℕ) → next_number c.book ≡ o → cond b (Err quota.BadQuota) (fitting c p asked o) ≡ Ok child → next_number c.book ≡ Some child
    by true o next e = cc
    by false None next e = cc
    by false (Some k) next e = room (nat_lt (room_of c p) asked) e
      where
        room : (b : Bool) → cond b (Err quota.NoRoom) (Ok k) ≡ Ok child → next_number c.book ≡ Some child
        room b e = grind arith

found-passes : (p : ℕ → Bool) (xs : List ℕ) (x : ℕ) → find p xs ≡ Some x → p x ≡ true
found-passes p [] x h = cc
found-passes p (y ∷ xs) x h = by (λ e. found-passes p xs x e) (p y) refl h
  where
    by : (find p xs ≡ Some x → p x ≡ true) → (b : Bool) → p y ≡ b → cond b (Some y) (find p xs) ≡ Some x → p x ≡ true
    by rest b is e = grind arith

-- it is not live
pub child-absent : (c : Containers) (p asked child : ℕ) → split_answer c p asked ≡ Ok child → map.contains_key c.book child ≡ false
child-absent c p asked child is = search (not-true, found-passes, next-of, arith)

pub child-is : (v : frames.View) (c : Containers) (o : Offers) (p asked child : ℕ) → split_answer c p asked ≡ Ok child → child_of (state_of v c o) ≡ child
child-is v c o p asked child is = ap (λ x. unwrap_or x 0) (next-of c p asked child is)

no_directory : (d : Option ℕ) → is_some d ≡ false → d ≡ None
no_directory d h = grind arith

pub child-has_none : (v : frames.View) (c : Containers) (p asked child : ℕ) → IsProcesses v c → split_answer c p asked ≡ Ok child → directory_of v.directories child ≡ None
child-has_none v c p asked child kept is = no_directory (directory_of v.directories child) (kept.live child ∙ child-absent c p asked child is)

-- ---- The child's charge

-- a process without a directory has nothing mapped
pub nothing-mapped : (image : Image) (S : Spaces) (p page : ℕ) → StandsFor image S → directory_at image p ≡ None → map.contains_key S (at_page p page) ≡ false
nothing-mapped image S p page stands none = grind arith

pub cost-child : (v : frames.View) (p : ℕ) → StandsFor (image_of v) v.spaces → directory_of v.directories p ≡ None → cost v.spaces p ≡ 1
cost-child v p stands none = cost-no_pages v.spaces p (λ page. nothing-mapped (image_of v) v.spaces p page stands none)

root_not : (c : Containers) (child : ℕ) → IsLive c 0 → map.contains_key c.book child ≡ false → 0 ≢ child
root_not c child live absent e = let a : map.contains_key c.book child ≡ true = ap (map.contains_key c.book) (sym e) ∙ live in cc

-- where the child's container says that it uses u, and the others use what they did
module _ (v : frames.View) (c : Containers) (p asked child : ℕ) (kept : IsProcesses v c) (root : IsLive c 0) (is : split_answer c p asked ≡ Ok child)
    (used : map.Map nat_order ℕ) (u : ℕ) (as_before : (q : ℕ) → same nat_order q child ≡ false → map.get used q ≡ map.get c.used q) where
  absent : map.contains_key c.book child ≡ false
  absent = child-absent c p asked child is

  abbrev pub after : Containers
  after = record { book = map.insert c.book child (record { parent = p; quota = asked }); used = map.insert used child u }

  member-other : (q : ℕ) → same nat_order q child ≡ false → map.get after.book q ≡ map.get c.book q
  member-other q n = get-insert c.book child (record { parent = p; quota = asked }) q ∙ ap (λ b. cond b (Some (record { parent = p; quota = asked })) (map.get c.book q)) n

  member-child : map.get after.book child ≡ Some (record { parent = p; quota = asked })
  member-child = get-insert c.book child (record { parent = p; quota = asked }) child ∙ ap (λ b. cond b (Some (record { parent = p; quota = asked })) (map.get c.book child)) (same_itself nat_order child)

  used-child : used_of after child ≡ u
  used-child = ap (λ x. unwrap_or x 0) (get-insert used child u child ∙ ap (λ b. cond b (Some u) (map.get used child)) (same_itself nat_order child))

  used-others : (q : ℕ) → same nat_order q child ≡ false → used_of after q ≡ used_of c q
  used-others q n = ap (λ x. unwrap_or x 0) (get-insert used child u q ∙ ap (λ b. cond b (Some u) (map.get used q)) n ∙ as_before q n)

  apart : (q : ℕ) → q ≢ child → same nat_order q child ≡ false
  apart q n = elim (same_or_not nat_order q child) [
    | inl h ↦ absurd (n h.0)
    | inr h ↦ h
  ]

  root-quota : quota_of after.book 0 ≡ quota_of c.book 0
  root-quota = ap (λ (x : Option Member). unwrap_or (option_map (λ m. m.quota) x) 0) (member-other 0 (apart 0 (root_not c child root absent)))

  -- there are the frames that the child is charged for
  pub room-child : ((q : ℕ) → map.contains_key after.book q ≡ true → q < 64) → total_used after ≤ quota_of after.book 0 → 1 + total_cost v.directories v.spaces + u ≤ length v.roles
  room-child small within =
      let none : 0 + u ≡ u = omega arith in
      room-for v c after child u kept (small child (ap is_some member-child)) small
      (ap (found (λ _. used_of after child)) member-child ∙ used-child ∙ sym (ap (λ d. (if is_some d then cost v.spaces child else 0) + u) (child-has_none v c p asked child kept is) ∙ none))
      (λ q n. member-other q (apart q n)) (λ q n. used-others q (apart q n)) root-quota within

  -- the child has a directory and is charged what it costs
  pub charged-child : (w : frames.View) → length w.roles ≡ length v.roles
      → is_some (directory_of w.directories child) ≡ true → ((q : ℕ) → q ≢ child → directory_of w.directories q ≡ directory_of v.directories q)
      → u ≡ cost w.spaces child → ((q : ℕ) → q ≢ child → cost w.spaces q ≡ cost v.spaces q) → IsProcesses w after
  charged-child w long live others own costs = record {
    live = λ q. elim (same_or_not nat_order q child) [
      | inl h ↦ ap (λ x. is_some (directory_of w.directories x)) h.0 ∙ live ∙ sym (ap (map.contains_key after.book) h.0 ∙ ap is_some member-child)
      | inr h ↦ ap is_some (others q (differ q child h)) ∙ kept.live q ∙ sym (ap is_some (member-other q h))
    ];
    charged = λ q l. elim (same_or_not nat_order q child) [
      | inl h ↦ ap (used_of after) h.0 ∙ used-child ∙ own ∙ ap (cost w.spaces) (sym h.0)
      | inr h ↦ used-others q h ∙ kept.charged q (sym (ap is_some (member-other q h)) ∙ l) ∙ sym (costs q (differ q child h))
    ];
    root = ap (λ n. 1 + n) root-quota ∙ kept.root ∙ sym long;
  }

-- what others use, where the child was charged for its directory alone
pub used-before : (c : Containers) (p asked child q : ℕ) → same nat_order q child ≡ false → map.get (after_split c p asked child).used q ≡ map.get c.used q
used-before c p asked child q n = get-insert c.used child 1 q ∙ ap (λ b. cond b (Some 1) (map.get c.used q)) n

-- the containers and the state tell the same of a process
pub container-same : (v : frames.View) (c : Containers) (o : Offers) (p : ℕ) → IsProcesses v c → quotas.container_of c p ≡ container_of (state_of v c o) p
container-same v c o p kept = grind arith

-- ---- Process 0 alone

-- process 0 has a directory, alone, and is charged for it
pub charged-root : (w : frames.View) (c : Containers) (n : ℕ) → c ≡ opening n → w.spaces ≡ map.empty → 1 + n ≡ length w.roles
    → is_some (directory_of w.directories 0) ≡ true → ((q : ℕ) → q ≢ 0 → directory_of w.directories q ≡ None) → IsProcesses w c
charged-root w c n is empty long live others = grind (arith, same_or_not, differ, get-insert)
