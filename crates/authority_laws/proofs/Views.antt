-- A process's replies depend on what it has, except for the offers to it.
use Rattle.authority_laws.proofs.Prelude.{◌≡◌, ℕ, ◌-◌, ◌&&◌, ◌||◌, ◌==◌, not, Bool, true, false, cond, [], ◌∷◌, refl, sym, ap, ◌∙◌, Some, None, is_some, unwrap_or, arith, if◌then◌else◌, nat_lt, nat_le, is_user_page, touched, Size, same_map, get-retain_keys, is_some-map, Slot, cost, cost_of, pages_of, cell_or_fresh, access_need, is_of, at_page, same_pages, given, quota_of, number_of_children, next_number, OfferKey, offer_key, pending, Access, Read, Write, extra_page, extra_touched, State, is_live, is_mapped, extra_cost, overdrawn, room, child_of, protect_refusal, loaded, plan_of, Flags, flags_of, flags_at, Shown, shown_of, shown_at, shares, is_offered, HaveTheSame, found, answer, answer_of, refused_or, planned_or, Call, Event, Reply, eqb-true, eq-eqb}
use Rattle.authority_laws.proofs.Standings.{live_in, quota_in, given_in, children_in}
use Rattle.page_words.specs.FiniteMap as map
use Rattle.process_table.specs.declared.causes.Cause.TheVariants as cause
use Rattle.kernel_calls.specs.declared.calls.Call.TheVariants as call
use Rattle.kernel_calls.specs.declared.calls.Reply.TheVariants as reply

-- a slot is q's own, or offered to it
abbrev pub sees : State → ℕ → Slot → Bool
sees s q slot = is_of q slot || is_offered s q slot

-- what one process has in two states
pub record HasTheSame (s t : State) (q : ℕ) : Type 0 where
  pub live : is_live s q ≡ is_live t q
  pub quota : quota_of s.book q ≡ quota_of t.book q
  pub given : given s.book q ≡ given t.book q
  pub children : number_of_children s.book q ≡ number_of_children t.book q
  pub flags : (page : ℕ) → flags_at s (at_page q page) ≡ flags_at t (at_page q page)
  pub pages : (page : ℕ) → shown_at s (at_page q page) ≡ shown_at t (at_page q page)
  pub same_page : (page other : ℕ)
      → shares s (at_page q page) (at_page q other) ≡ shares t (at_page q page) (at_page q other)
  pub made : (page target : ℕ) → map.get s.offers (offer_key q page target) ≡ map.get t.offers (offer_key q page target)

pub member_has : (s t : State) (Q : ℕ → Bool) (q : ℕ) → Q q ≡ true → HaveTheSame s t Q → HasTheSame s t q
member_has s t Q q mine l = grind (arith, live_in, quota_in, given_in, children_in)

abbrev pub takes_offer : Call → Bool
takes_offer (call.Accept _ _ _) = true
takes_offer _ = false

-- ---- Who is live, as calls find it

pub child_is_same : (s t : State) → next_number s.book ≡ next_number t.book → child_of s ≡ child_of t
child_is_same s t h = λ i. unwrap_or (h i) 0

target_same : (a b : Bool) (target : ℕ) → (if a then Some target else None) ≡ (if b then Some target else None) → a ≡ b
target_same a b target h = grind arith

-- a process sees its own slots
pub sees_own : (s : State) (q page : ℕ) → sees s q (at_page q page) ≡ true
sees_own s q page = ap (λ b. b || is_offered s q (at_page q page)) (eq-eqb q q refl)

module _ (s t : State) (q : ℕ) (l : HasTheSame s t q) where
  mapped_same : (page : ℕ) → is_mapped s (at_page q page) ≡ is_mapped t (at_page q page)
  mapped_same page = grind (arith, is_some-map)

  own_pages_same : pages_of s.spaces q ≡ pages_of t.spaces q
  own_pages_same = same_pages s.spaces t.spaces q q mapped_same

  cost_same : cost s.spaces q ≡ cost t.spaces q
  cost_same = ap cost_of own_pages_same

  room_same : room s q ≡ room t q
  room_same = λ i. l.quota i - cost_same i - l.given i

  extra_page_same : (page : ℕ) → extra_cost s q (page ∷ []) ≡ extra_cost t q (page ∷ [])
  extra_page_same page = grind (arith, extra_page, mapped_same, own_pages_same)

  no_room_same : (page : ℕ) → overdrawn s q (page ∷ []) ≡ overdrawn t q (page ∷ [])
  no_room_same page = λ i. nat_lt (room_same i) (extra_page_same page i)

  own_flags_same : (page : ℕ) → flags_of (cell_or_fresh s.spaces (at_page q page)) ≡ flags_of
      (cell_or_fresh t.spaces (at_page q page))
  own_flags_same page = grind arith

  own_shown_same : (page : ℕ) → shown_of (cell_or_fresh s.spaces (at_page q page)) ≡ shown_of
      (cell_or_fresh t.spaces (at_page q page))
  own_shown_same page = grind arith

  access_need_same : (addr : ℕ) (size : Size) → access_need s.spaces q addr size ≡ access_need t.spaces q addr size
  access_need_same addr size = grind (arith, own_pages_same)

  extra_same : (addr : ℕ) (size : Size) → extra_cost s q (touched addr size) ≡ extra_cost t q (touched addr size)
  extra_same addr size = extra_touched s q addr size ∙ access_need_same addr size ∙ sym (extra_touched t q addr size)

  loaded_same : (addr : ℕ) (size : Size) → loaded s q addr size ≡ loaded t q addr size
  loaded_same addr size = grind (arith, own_shown_same)

  pending_same : pending s.offers q ≡ pending t.offers q
  pending_same = same_map (pending s.offers q) (pending t.offers q) (λ key.
      get-retain_keys s.offers (λ (k : OfferKey). k.offerer == q) key ∙ by key (key.offerer == q) refl
      ∙ sym (get-retain_keys t.offers (λ (k : OfferKey). k.offerer == q) key))
    where
      by : (key : OfferKey) (b : Bool) → (key.offerer == q) ≡ b
          → cond (key.offerer == q) (map.get s.offers key) None ≡ cond (key.offerer == q) (map.get t.offers key) None
      by key true is =
          let here : key ≡ offer_key q key.page key.target =
          (λ i. record { offerer = eqb-true key.offerer q is i; page = key.page; target = key.target }) in
          ap (λ x. cond (key.offerer == q) x None) (ap (map.get s.offers) here ∙ l.made key.page key.target
          ∙ ap (map.get t.offers) (sym here))
      by key false is = grind arith

  plan_same : (addr : ℕ) (size : Size) (access : Access) → plan_of s q addr size access ≡ plan_of t q addr size access
  plan_same addr size access = grind (arith, mapped_same, own_flags_same, room_same, extra_same)

  protect_same : (page : ℕ) (write : Bool) → protect_refusal s q page write ≡ protect_refusal t q page write
  protect_same page write = grind (arith, mapped_same, own_flags_same)

  pub answer_of_same : (c : Call) → takes_offer c ≡ false → found s c ≡ found t c → answer_of s q c ≡ answer_of t q c
  answer_of_same (call.Load addr size) none finds = λ i.
      planned_or (plan_same addr size Read i) (reply.Value (loaded_same addr size i))
  answer_of_same (call.Store addr size value) none finds = λ i. planned_or (plan_same addr size Write i) reply.Done
  answer_of_same (call.Map page write) none finds = grind (arith, mapped_same, no_room_same)
  answer_of_same (call.Unmap page) none finds = grind (arith, mapped_same)
  answer_of_same (call.Protect page write) none finds = λ i. refused_or (protect_same page write i) reply.Done
  answer_of_same (call.Info page) none finds = λ i.
      refused_or (protect_same page false i) (told (own_flags_same page i) (own_shown_same page i))
    where
      told : Flags → Shown → Reply
      told flags shown = reply.Info flags.write flags.may flags.accessed flags.dirty shown.holders
  answer_of_same (call.Offer page target write) none finds = λ i. refused_or
      (if not (is_user_page page) then Some cause.BadPage else
      if not (mapped_same page i) then Some cause.NotMapped else
      if target == q then Some cause.SelfOffer else
      if not (target_same (is_live s target) (is_live t target) target finds i) then Some cause.NoTarget else
      if write && not (own_flags_same page i).may then Some cause.Rights else
      if is_some (l.made page target i) then Some cause.OfferPending else
      if nat_le 32 (map.len (pending_same i)) then Some cause.TooManyOffers else
      None) reply.Done
  answer_of_same (call.Spawn quota) none finds = grind (arith, room_same)
  answer_of_same (call.Fork quota) none finds = grind (arith, cost_same, room_same)
  answer_of_same call.Quota none finds = λ i. reply.Quota (l.quota i) (cost_same i) (l.given i)
  answer_of_same _ none finds = grind arith

-- any call but an accept is told the same, where it finds the same processes live if it reads that
pub told_by_own : (s t : State) (e : Event) → HasTheSame s t e.pid → takes_offer e.call ≡ false
    → found s e.call ≡ found t e.call → answer s e ≡ answer t e
told_by_own s t e l none finds = grind (arith, answer_of_same)

pub process_told : (s t : State) (e : Event) → HasTheSame s t e.pid → found s e.call ≡ found t e.call
    → ((giver page own : ℕ) → e.call ≡ call.Accept giver page own
    → is_offered s e.pid (at_page giver page) ≡ is_offered t e.pid (at_page giver page)) → answer s e ≡ answer t e
process_told s t e l finds accepts = grind (arith, told_by_own, mapped_same, no_room_same)
