-- What clearing accessed and dirty of a slot ends.
use Rattle.kernel_calls.proofs.Prelude.{◌≡◌, ◌≢◌, ℕ, Bool, true, false, refl, sym, ap, ◌∙◌, Option, Some, unwrap_or, arith, option_map, some_value, same_itself, same_cases, same_Some, walk_of, FramesStay, none_goes, kept, memory_of, Slot, slot_order, Cell, fresh, cell_or_fresh, is_slot, at_page, slot_at, State, is_mapped, View, get-inserted, get-inserted_other, cleaned, EndsMarks, IsCore, EventsEndMarks}
use Rattle.kernel_calls.proofs.CoreMemory.{ways_of}
use Rattle.kernel_calls.proofs.Flags.{has}
use Rattle.kernel_calls.proofs.Linked.{mapped_way, tables_map}
use Rattle.kernel_calls.proofs.Translated.{walk_takes, walk_finds, has_right}
use Rattle.page_words.specs.FiniteMap as map
use Rattle.kernel_calls.specs.declared.translations.Ended.TheVariants as end

-- the cell without its marks
abbrev pub clean : Cell → Cell
clean c = record c { accessed = false; dirty = false }

module _ (s : State) (slot : Slot) (c : Cell) (at : map.get s.spaces slot ≡ Some c) where
  pub there : cell_or_fresh s.spaces slot ≡ c
  there = ap (λ (x : Option Cell). unwrap_or x (fresh slot true)) at

  pub get_clean : map.get (cleaned s slot).spaces slot ≡ Some (clean c)
  get_clean = get-inserted s.spaces slot (clean (cell_or_fresh s.spaces slot)) ∙ ap (λ (x : Cell). Some (clean x)) there

  -- what does not tell of the marks is the same at each slot
  pub same_at : {A : Type 0} (f : Cell → A) → f (clean c) ≡ f c → (q : Slot) → option_map f (map.get s.spaces q) ≡ option_map f (map.get (cleaned s slot).spaces q)
  same_at f same q = grind (arith, same_cases, get_clean, get-inserted_other)

pub events_end_marks : EventsEndMarks
events_end_marks ended v w ends = grind arith

pub cleaning_ends : (v w : View) (p page : ℕ) → IsCore v → IsCore w → is_mapped v.state (at_page p page) ≡ true
    → w.state ≡ cleaned v.state (at_page p page) → FramesStay none_goes (memory_of v) (memory_of w) → EndsMarks (end.Page p page) v w
cleaning_ends v w p page now later mapped state stay = record {
  translations = λ q d a f access small spared gives.
      let live = gives.0 in
      let walk = gives.1 in
      let slot = slot_at q a in
      let way = (ways_of now).lead q d a f access live small walk in
      let way' = stay.ways slot d f refl way in (
        stay.directories q d (record { page = slot.page; frame = f; stays = refl }) live,
        walk_finds w later q d a f access small way' (λ is.
            let right = has_right v now slot (walk_takes v now q d a f live small (ap (walk_of v.bytes d a) (sym is) ∙ walk)) in
            (sym (writes slot) ∙ right.0, (ways_of later).lazy slot d f way' ∙ sym ((ways_of now).lazy slot d f way) ∙ right.1)),
      );
  slots = grind (arith, there, kept);
  flags = grind (arith, get-inserted_other, apart, same_Some);
  directories = λ q d some live. stay.directories q d (record { page = 0; frame = 1; stays = refl }) live;
  tables = λ slot t spared there linked.
      let way = mapped_way v now.image slot there in
      stay.tables slot way.0 way.1 t refl way.2 linked;
  linked = tables_map v now.image;
}
  where
    c0 : (d : Cell) × (map.get v.state.spaces (at_page p page) ≡ Some d)
    c0 = some_value (map.get v.state.spaces (at_page p page)) mapped

    told : (x : Option Cell) → has (λ c. c.write) x ≡ unwrap_or (option_map (λ (c : Cell). c.write) x) false
    told x = grind arith

    writes : (slot : Slot) → has (λ c. c.write) (map.get v.state.spaces slot) ≡ has (λ c. c.write) (map.get w.state.spaces slot)
    writes slot = told (map.get v.state.spaces slot)
        ∙ ap (λ (x : Option Bool). unwrap_or x false) (same_at v.state (at_page p page) c0.0 c0.1 (λ (c : Cell). c.write) refl slot
        ∙ sym (ap (λ (t : State). option_map (λ (c : Cell). c.write) (map.get t.spaces slot)) state))
        ∙ sym (told (map.get w.state.spaces slot))

    apart : (slot : Slot) → is_slot p page slot ≡ false → slot ≢ at_page p page
    apart slot spared e = absurd (
        let t : is_slot p page slot ≡ true = ap (is_slot p page) e ∙ same_itself slot_order (at_page p page) in
        cc)
