-- What runs of some processes' events leave of the state to all others.
use Rattle.kernel_laws.proofs.Prelude.{◌≡◌, ◌≢◌, ◌∙◌, ℕ, Bool, true, false, List, [], ◌∷◌, Option, Some, None, refl, sym, ap, inl, inr, arith, is_some, unwrap_or, option_map, slice_index, Slot, Cell, slot_at, cell_or_fresh, get-inserted_other, Flags, flags_of, flags_at, shares, cleaned, next, Event, get_or_default, same_lists, Member, quota_of, State, is_live, IsWellFormed, end_of, IsUntouched, sharing_by_consent, changes_are_rightful, kept-next, integrity, AreOwn, IsOwn}
use Rattle.authority_laws.proofs.Confined.{back}
use Rattle.page_words.specs.FiniteMap as map
use Rattle.page_words.specs.FiniteSet as set

-- none of these processes has a page of the slot's group
abbrev pub IsAlone : State → (ℕ → Bool) → Slot → Type 0
IsAlone s own slot = (mate : Slot) → own mate.pid ≡ true → shares s slot mate ≡ false

-- what all others keep
pub record OthersKeep (own : ℕ → Bool) (s t : State) : Type 0 where
  pub root : quota_of t.book 0 ≡ quota_of s.book 0
  pub live : (q : ℕ) → own q ≡ false → is_live s q ≡ true → is_live t q ≡ true
  pub flags : (slot : Slot) → own slot.pid ≡ false → is_live s slot.pid ≡ true → flags_at t slot ≡ flags_at s slot
  pub alone : (slot : Slot) → own slot.pid ≡ false → IsAlone s own slot → IsAlone t own slot
  pub bytes : (slot : Slot) (c d : Cell) → own slot.pid ≡ false → IsAlone s own slot → map.get s.spaces slot ≡ Some c
      → map.get t.spaces slot ≡ Some d → d.bytes ≡ c.bytes

-- a cell with flags is there
pub flagged : (t : State) (slot : Slot) (f : Flags) → flags_at t slot ≡ Some f
    → (d : Cell) × (map.get t.spaces slot ≡ Some d) × (flags_of d ≡ f)
flagged t slot f is = by (map.get t.spaces slot) refl
  where
    by : (x : Option Cell) → map.get t.spaces slot ≡ x → (d : Cell) × (map.get t.spaces slot ≡ Some d) × (flags_of d ≡ f)
    by None at = let k : None ≡ Some f = sym (ap (option_map flags_of) at) ∙ is in cc
    by (Some d) at = let k : Some (flags_of d) ≡ Some f = sym (ap (option_map flags_of) at) ∙ is in (d, at, cc)

module _ (own : ℕ → Bool) where
  strangers : (p q : ℕ) → own p ≡ false → own q ≡ true → p ≢ q
  strangers p q strange his is = let k : false ≡ true = sym strange ∙ ap own is ∙ his in cc

  -- ---- One event
  module _ (s : State) (e : Event) (well : IsWellFormed s) (mine : IsOwn own e) where
    untouched : (q : ℕ) → own q ≡ false → is_live s q ≡ true → IsUntouched s (next s e) e q
    untouched q strange live = integrity s e q well live (strangers q e.pid strange mine.mine)

    -- nobody of them comes to share with another, since they accept nothing
    still_alone : (slot : Slot) → own slot.pid ≡ false → IsAlone s own slot → IsAlone (next s e) own slot
    still_alone slot strange alone mate his = by (shares (next s e) slot mate) refl
      where
        apart : slot ≢ mate
        apart is = strangers slot.pid mate.pid strange his (ap (λ (x : Slot). x.pid) is)

        by : (b : Bool) → shares (next s e) slot mate ≡ b → shares (next s e) slot mate ≡ false
        by false is = is
        by true is = absurd (elim (sharing_by_consent s e slot mate well apart is) [
          | inl was ↦ let k : false ≡ true = sym (alone mate his) ∙ was in cc
          | inr joins ↦ elim joins [ inl j ↦ mine.takes_none _ _ _ j.call | inr j ↦ mine.takes_none _ _ _ j.call ]
        ])

    same_bytes : (slot : Slot) (c d : Cell) → own slot.pid ≡ false → IsAlone s own slot → map.get s.spaces slot ≡ Some c
        → map.get (next s e).spaces slot ≡ Some d → d.bytes ≡ c.bytes
    same_bytes slot c d strange alone was is =
        let long = ((kept-next s e well).0.cells slot d is).long in
        let also = (well.cells slot c was).long in
        same_lists d.bytes c.bytes (long ∙ sym also)
        (λ k x l. get_or_default d.bytes k x 0 l ∙ byte k ∙ get_or_default c.bytes k 0 x (omega (arith, l, long, also)))
      where
        byte : (place : ℕ) → slice_index d.bytes place ≡ slice_index c.bytes place
        byte place = elim ((changes_are_rightful s e slot c d well was is).bytes place) [
          | inl same ↦ same
          | inr into ↦
              let through : Slot = slot_at e.pid into.byte in
              let there : shares s through slot ≡ true =
              ap (λ (o : Option Cell). unwrap_or (option_map (λ (c : Cell). set.contains c.holders slot) o) false) into.through
              ∙ into.shared in
              let k : false ≡ true = sym (alone through mine.mine) ∙ back s through slot well there in
              cc
        ]

    pub event_keeps : OthersKeep own s (next s e)
    event_keeps = record {
      root = ap (λ o. unwrap_or (option_map (λ (m : Member). m.quota) o) 0) (kept-next s e well).1;
      live = λ q strange live. ap is_some (untouched q strange live).member ∙ live;
      flags = λ slot strange live. (untouched slot.pid strange live).flags slot.page;
      alone = still_alone;
      bytes = same_bytes;
    }

  -- ---- Runs
  none_keeps : (s : State) → OthersKeep own s s
  none_keeps s = record {
    root = refl;
    live = λ q strange live. live;
    flags = λ slot strange live. refl;
    alone = λ slot strange alone. alone;
    bytes = λ slot c d strange alone was is. let k : Some d ≡ Some c = sym is ∙ was in let m : d ≡ c = cc in ap (λ (x : Cell). x.bytes) m;
  }

  both_keep : (s u t : State) → IsWellFormed s → OthersKeep own s u → OthersKeep own u t → OthersKeep own s t
  both_keep s u t well a b = record {
    root = b.root ∙ a.root;
    live = λ q strange live. b.live q strange (a.live q strange live);
    flags = λ slot strange live. b.flags slot strange (a.live slot.pid strange live) ∙ a.flags slot strange live;
    alone = λ slot strange alone. b.alone slot strange (a.alone slot strange alone);
    bytes = λ slot c d strange alone was is.
        let m = flagged u slot (flags_of c) (a.flags slot strange (well.owners slot c was) ∙ ap (option_map flags_of) was) in
        b.bytes slot m.0 d strange (a.alone slot strange alone) m.1 is ∙ a.bytes slot c m.0 strange alone was m.1;
  }

  pub run_keeps : (s : State) (events : List Event) → IsWellFormed s → AreOwn own events → OthersKeep own s (end_of s events)
  run_keeps s [] well mine = none_keeps s
  run_keeps s (e ∷ events) well mine =
      both_keep s (next s e) (end_of (next s e) events) well (event_keeps s e well mine.0)
      (run_keeps (next s e) events (kept-next s e well).0 mine.1)

  -- ---- A page of theirs is cleaned
  pub cleaning_keeps : (s : State) (at : Slot) → own at.pid ≡ true → OthersKeep own s (cleaned s at)
  cleaning_keeps s at his = record {
    root = refl;
    live = λ q strange live. live;
    flags = λ slot strange live. ap (option_map flags_of) (same slot strange);
    alone = λ slot strange alone mate is.
        ap (λ (o : Option Cell). unwrap_or (option_map (λ (c : Cell). set.contains c.holders mate) o) false) (same slot strange) ∙ alone mate is;
    bytes = λ slot c d strange alone was is.
        let k : Some d ≡ Some c = sym is ∙ same slot strange ∙ was in
        let m : d ≡ c = cc in
        ap (λ (x : Cell). x.bytes) m;
  }
    where
      same : (slot : Slot) → own slot.pid ≡ false → map.get (cleaned s at).spaces slot ≡ map.get s.spaces slot
      same slot strange =
          get-inserted_other s.spaces at (record (cell_or_fresh s.spaces at) { accessed = false; dirty = false }) slot
          (λ is. strangers slot.pid at.pid strange his (ap (λ (x : Slot). x.pid) is))
