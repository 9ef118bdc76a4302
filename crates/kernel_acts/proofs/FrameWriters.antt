-- Which frames an event may write, by their roles.
use Rattle.kernel_acts.proofs.Prelude.{◌≡◌, ℕ, ◌+◌, ◌≤◌, ◌<◌, ◌==◌, ◌&&◌, Bool, false, not, refl, sym, ap, subst, ◌∙◌, Some, inl, inr, arith, ◌⊎◌, ◌↔◌, IsTrue, slice_get, cases_lt, eqb-true, eq-eqb, same_Some, slot_number, Reserved, Free, Directory, Table, Page, directory_at, table_at, page_frame, is_lazy_at, Slot, at_page, way_of, owned, own_is, memory_of, is_mapped, View, both_true, IsCore, Event}
use Rattle.kernel_calls.specs.Written.{TakesLazy, MayWrite}
use Rattle.kernel_acts.proofs.Beside.{led}
use Rattle.kernel_calls.proofs.Writings.{unmapped_slot}
use Rattle.address_space.specs.Image as memory
use Rattle.kernel_calls.specs.declared.calls.Call.TheVariants as call
use Rattle.alloc_table.specs.declared.Role.{Role}

-- ---- By the role

-- what a frame of this role has to be, so that the event may write it
abbrev pub CanBe : View → Event → ℕ → Role → Type 0
CanBe v e f Reserved = ⊥
CanBe v e f Free = Unit {0}
CanBe v e f (Directory q) = (q ≡ e.pid) ⊎ ((region : ℕ) × TakesLazy v e q region)
CanBe v e f (Table q s) = (q ≡ e.pid) ⊎ TakesLazy v e q s
CanBe v e f (Page c) = (page : ℕ) × (page_frame (memory_of v) (at_page e.pid page) ≡ Some f)

module _ (v : View) (e : Event) (f : ℕ) (sound : memory.IsSoundImage (memory_of v)) where
  other_role : (r s : Role) → slice_get v.roles f ≡ Some r → slice_get v.roles f ≡ Some s → CanBe v e f r → CanBe v e f s
  other_role r s is so h = subst (CanBe v e f) (same_Some r s (sym is ∙ so)) h

  can_be : (r : Role) → slice_get v.roles f ≡ Some r → MayWrite v e f → CanBe v e f r
  can_be r is (inl free) = other_role Free r free is tt
  can_be r is (inr (inl (inl directory))) = other_role (Directory e.pid) r ((sound.directories f e.pid).1 directory) is (inl refl)
  can_be r is (inr (inl (inr (inl table)))) = other_role (Table e.pid table.0) r ((sound.tables f e.pid table.0).1 table.1) is (inl refl)
  can_be r is (inr (inl (inr (inr page)))) =
      let role = sound.pages (at_page e.pid page.0) f page.1 in
      other_role (Page role.0) r role.1 is page
  can_be r is (inr (inr taken)) = grind (arith, other_role)

  may_be : (r : Role) → slice_get v.roles f ≡ Some r → CanBe v e f r → MayWrite v e f
  may_be Reserved is h = absurd h
  may_be Free is h = inl is
  may_be (Directory q) is (inl own) = inr (inl (inl (subst (λ p. directory_at (memory_of v) p ≡ Some f) own ((sound.directories f q).0 is))))
  may_be (Directory q) is (inr taken) = inr (inr (record { giver = q; region = taken.0; takes = taken.1; leads = inl ((sound.directories f q).0 is) }))
  may_be (Table q s) is (inl own) = inr (inl (inr (inl (s, subst (λ p. table_at (memory_of v) p s ≡ Some f) own ((sound.tables f q s).0 is)))))
  may_be (Table q s) is (inr takes) = inr (inr (record { giver = q; region = s; takes = takes; leads = inr ((sound.tables f q s).0 is) }))
  may_be (Page c) is page = inr (inl (inr (inr page)))

  pub by_role : (r : Role) → slice_get v.roles f ≡ Some r → (b : Bool) → (IsTrue b ↔ CanBe v e f r) → IsTrue b ↔ MayWrite v e f
  by_role r is b told = (λ h. may_be r is (told.0 h), λ m. told.1 (can_be r is m))

-- ---- Pages on a frame

pub no_frame_bare : (v : View) → IsCore v → (p page f : ℕ) → is_mapped v.state (at_page p page) ≡ false → page_frame (memory_of v) (at_page p page) ≡ Some f → ⊥
no_frame_bare v core p page f none is = grind (arith, unmapped_slot)

-- a page that leads to a frame has that frame, unless it is frame 0
pub on_frame : (v : View) → IsCore v → (slot : Slot) (d g f : ℕ) → way_of (memory_of v) slot ≡ Some (d, g)
    → IsTrue (not (g == 0) && (g == f)) ↔ (page_frame (memory_of v) slot ≡ Some f)
on_frame v core slot d g f way = grind (arith, led, both_true, own_is, eqb-true, owned, eq-eqb)

-- ---- The search

-- none of the pages below has the frame
pub record SearchedTo (v : View) (p f at : ℕ) : Type 0 where
  pub none : (page : ℕ) → page < at → page_frame (memory_of v) (at_page p page) ≡ Some f → ⊥

pub searched_on : (v : View) → IsCore v → (p f at found : ℕ) → SearchedTo v p f at
    → ((other : ℕ) → at ≤ other → other < found → is_mapped v.state (at_page p other) ≡ false)
    → (page_frame (memory_of v) (at_page p found) ≡ Some f → ⊥) → SearchedTo v p f (found + 1)
searched_on v core p f at found before bare here = record {
  none = λ page down is. elim (cases_lt page at) [
    | inl below ↦ before.none page below is
    | inr above ↦ elim (cases_lt page found) [
      | inl under ↦ no_frame_bare v core p page f (bare page above under) is
      | inr past ↦ here (let same : page ≡ found = omega (arith, past, down) in sym (ap (λ n. page_frame (memory_of v) (at_page p n)) same) ∙ is)
    ]
  ];
}

pub searched_all : (v : View) → IsCore v → (p f at : ℕ) → SearchedTo v p f at → ((other : ℕ) → at ≤ other → is_mapped v.state (at_page p other) ≡ false)
    → (page : ℕ) × (page_frame (memory_of v) (at_page p page) ≡ Some f) → ⊥
searched_all v core p f at before bare found = elim (cases_lt found.0 at) [
  | inl below ↦ before.none found.0 below found.1
  | inr above ↦ no_frame_bare v core p found.0 f (bare found.0 above) found.1
]

-- ---- Events that take a lazy page

pub takes : (v : View) (e : Event) (giver page own : ℕ) → e.call ≡ call.Accept giver page own → (q : ℕ) → giver ≡ q → (b : Bool)
    → b ≡ is_lazy_at (memory_of v) (at_page giver page) → IsTrue b ↔ ((region : ℕ) × TakesLazy v e q region)
takes v e giver page own is q same b lazy = (to, from)
  where
    to : IsTrue b → (region : ℕ) × TakesLazy v e q region
    to h = (
      slot_number page,
      record {
        giver_page = page;
        page = own;
        call = is ∙ ap (λ g. call.Accept g page own) same;
        inside = refl;
        lazy = ap (λ g. is_lazy_at (memory_of v) (at_page g page)) (sym same) ∙ sym lazy ∙ h;
      },
    )

    from : (region : ℕ) × TakesLazy v e q region → IsTrue b
    from t = grind arith
