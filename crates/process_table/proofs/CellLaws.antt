-- Cells stay well formed where one is mapped, where a group gets other bytes, and where some slots go.
use Rattle.process_table.proofs.Prelude.{arith, ◌≡◌, ◌≢◌, ℕ, ◌<◌, ◌&&◌, ◌||◌, not, Bool, true, false, cond, List, length, refl, sym, ap, subst, ◌∙◌, Option, Some, None, inl, inr, IsTrue, option_map, All, IsUserPage, Set, same_itself, same-true, get-insert, get-retain_keys, get-map_values, contains-insert, contains-retain, same_cases, Slot, slot_order, Cell, Spaces, without, with_holders, IsCellAt, not-true, same_Some, or-false}
use Rattle.page_words.specs.FiniteMap as map
use Rattle.page_words.specs.FiniteSet as set

-- each cell is well formed
abbrev pub AreCells : Spaces → Type 0
AreCells S = (slot : Slot) (cell : Cell) → map.get S slot ≡ Some cell → IsCellAt S slot cell

-- two tests that both pass
pub both_true : (a b : Bool) → (a && b) ≡ true → (a ≡ true) × (b ≡ true)
both_true a b h = grind arith

-- what was put at a key stands there
pub get-inserted : (S : Spaces) (slot : Slot) (c : Cell) → map.get (map.insert S slot c) slot ≡ Some c
get-inserted S slot c = get-insert S slot c slot ∙ ap (λ b. cond b (Some c) (map.get S slot)) (same_itself slot_order slot)

-- and at the others what stood there
pub get-inserted_other : (S : Spaces) (slot : Slot) (c : Cell) (q : Slot) → q ≢ slot → map.get (map.insert S slot c) q ≡ map.get S q
get-inserted_other S slot c q n = grind (arith, get-insert, same_cases)

-- ---- One cell more

-- a cell that holds its group alone
pub lone-cell : (T : Spaces) (slot : Slot) (c : Cell) → map.get T slot ≡ Some c → IsUserPage slot.page → length c.bytes ≡ 4096 → All (λ b. b < 256) c.bytes
    → (IsTrue c.write → IsTrue c.may) → (IsTrue c.dirty → IsTrue c.accessed) → c.holders ≡ set.insert set.empty slot → IsCellAt T slot c
lone-cell T slot c now user long small write dirty alone = record {
  user = user;
  long = long;
  small = small;
  write_may = write;
  dirty_accessed = dirty;
  own = ap (λ (h : Set slot_order). set.contains h slot) alone ∙ contains-insert {o = slot_order} set.empty slot slot ∙ ap (λ b. b || false) (same_itself slot_order slot);
  alike = λ other h. (c, (grind (arith, same-true, or-false, contains-insert)), refl, refl);
}

-- a cell in other spaces, in a group that holds its slot, and whose slots have its bytes
pub cell-kept : {S : Spaces} (T : Spaces) (slot : Slot) (c : Cell) (holders : Set slot_order) → IsCellAt S slot c
    → IsTrue (set.contains holders slot)
    → ((other : Slot) → IsTrue (set.contains holders other)
    → (d : Cell) × (map.get T other ≡ Some d) × (d.holders ≡ holders) × (d.bytes ≡ c.bytes))
    → IsCellAt T slot (with_holders c holders)
cell-kept T slot c holders was own alike = assumption

-- the other cells do not see it
pub cells-lone : (S T : Spaces) (slot : Slot) (c : Cell) → map.get S slot ≡ None → map.get T slot ≡ Some c → ((q : Slot) → q ≢ slot → map.get T q ≡ map.get S q) → AreCells S → IsCellAt T slot c → AreCells T
cells-lone S T slot c none now others cells new q e found = elim (same_cases slot_order q slot) [
  | inl is ↦ subst (λ (x : Slot). IsCellAt T x e) (sym is.0) (subst (IsCellAt T slot) (same_Some c e (sym now ∙ ap (map.get T) (sym is.0) ∙ found)) new)
  | inr other ↦ old q e (sym (others q other.0) ∙ found)
]
  where
    apart : (o : Slot) (d : Cell) → map.get S o ≡ Some d → o ≢ slot
    apart o d h e = let x : Some d ≡ None = sym h ∙ ap (map.get S) e ∙ none in cc

    old : (q : Slot) (e : Cell) → map.get S q ≡ Some e → IsCellAt T q e
    old q e h =
        let was = cells q e h in
        cell-kept T q e e.holders was was.own
        (λ other inside. let o = was.alike other inside in (o.0, others other (apart other o.0 o.1) ∙ o.1, o.2, o.3))

-- ---- A group gets other bytes

-- a cell that is left as it was, but for its bytes where it is in the group, and for its flags
pub record IsRenewed (group : Set slot_order) (bytes : List ℕ) (q : Slot) (d e : Cell) : Type 0 where
  pub holders : e.holders ≡ d.holders
  pub bytes_in : set.contains group q ≡ true → e.bytes ≡ bytes
  pub bytes_out : set.contains group q ≡ false → e.bytes ≡ d.bytes
  pub write : (IsTrue d.write → IsTrue d.may) → IsTrue e.write → IsTrue e.may
  pub may : e.may ≡ d.may
  pub dirty : (IsTrue d.dirty → IsTrue d.accessed) → IsTrue e.dirty → IsTrue e.accessed

module _ (S T : Spaces) (slot : Slot) (c : Cell) (bytes : List ℕ) (at : map.get S slot ≡ Some c)
    (forth : (q : Slot) (d : Cell) → map.get S q ≡ Some d → (e : Cell) × (map.get T q ≡ Some e) × IsRenewed c.holders bytes q d e)
    (back : (q : Slot) (e : Cell) → map.get T q ≡ Some e → (d : Cell) × (map.get S q ≡ Some d))
    (cells : AreCells S) (long : length bytes ≡ 4096) (small : All (λ b. b < 256) bytes) where
  -- two slots of one group are both in the group that changes, or neither is
  together : (q other : Slot) (d o : Cell) → map.get S q ≡ Some d → map.get S other ≡ Some o → o.holders ≡ d.holders → set.contains d.holders other ≡ true → set.contains c.holders other ≡ set.contains c.holders q
  together q other d o at_q at_other shared inside = grind arith

  one_renewed : (q : Slot) (d e : Cell) → map.get S q ≡ Some d → IsRenewed c.holders bytes q d e → IsCellAt T q e
  one_renewed q d e at_q r =
      let was = cells q d at_q in
      record {
        user = was.user;
        long = grind arith;
        small = grind arith;
        write_may = r.write was.write_may;
        dirty_accessed = r.dirty was.dirty_accessed;
        own = ap (λ (g : Set slot_order). set.contains g q) r.holders ∙ was.own;
        alike = alike;
      }
    where
      alike : (other : Slot) → IsTrue (set.contains e.holders other) → (f : Cell) × (map.get T other ≡ Some f) × (f.holders ≡ e.holders) × (f.bytes ≡ e.bytes)
      alike other inside =
          let inside_d : set.contains d.holders other ≡ true = ap (λ (g : Set slot_order). set.contains g other) (sym r.holders) ∙ inside in
          let o = (cells q d at_q).alike other inside_d in
          let f = forth other o.0 o.1 in
          let same_test = together q other d o.0 at_q o.1 o.2 inside_d in (
            f.0,
            f.1,
            f.2.holders ∙ o.2 ∙ sym r.holders,
            (grind arith)
                ∙ (λ i. cond (same_test i) bytes (o.3 i))
                ∙ sym (grind arith),
          )

  -- where a group gets other bytes, all cells stay well formed
  pub cells-renewed : AreCells T
  cells-renewed q e found =
      let d = back q e found in
      let f = forth q d.0 d.1 in
      subst (IsCellAt T q) (same_Some f.0 e (sym f.1 ∙ found)) (one_renewed q d.0 f.0 d.1 f.2)

-- ---- Some slots go

module _ (S : Spaces) (gone : Slot → Bool) where
  abbrev left_in : Cell → Cell
  left_in cell = with_holders cell (set.retain cell.holders (λ s. not (gone s)))

  get-without : (q : Slot) → map.get (without S gone) q ≡ option_map left_in (cond (not (gone q)) (map.get S q) None)
  get-without q = get-map_values slot_order (λ slot cell. left_in cell) (map.retain_keys S (λ s. not (gone s))) q ∙ ap (option_map left_in) (get-retain_keys S (λ s. not (gone s)) q)

  -- a slot that is left keeps its cell, but for who is gone
  pub without-stays : (q : Slot) (d : Cell) → map.get S q ≡ Some d → gone q ≡ false → map.get (without S gone) q ≡ Some (with_holders d (set.retain d.holders (λ s. not (gone s))))
  without-stays q d h stays = get-without q ∙ (λ i. option_map left_in (cond (not (stays i)) (h i) None))

  -- what is left was there
  pub without-was : (q : Slot) (e : Cell) → map.get (without S gone) q ≡ Some e → (d : Cell) × (map.get S q ≡ Some d) × (gone q ≡ false) × (with_holders d (set.retain d.holders (λ s. not (gone s))) ≡ e)
  without-was q e h = by (gone q) refl (map.get S q) refl (sym (get-without q) ∙ h)
    where
      by : (b : Bool) → gone q ≡ b → (x : Option Cell) → map.get S q ≡ x → option_map left_in (cond (not b) x None) ≡ Some e → (d : Cell) × (map.get S q ≡ Some d) × (gone q ≡ false) × (left_in d ≡ e)
      by true is x at k = cc
      by false is None at k = cc
      by false is (Some d) at k = (d, at, is, same_Some (left_in d) e k)

  -- where slots go, the cells that are left stay well formed
  pub cells-without : AreCells S → AreCells (without S gone)
  cells-without cells q e found =
      let l = without-was q e found in
      subst (IsCellAt (without S gone) q) l.3 (kept l.0 l.1 l.2)
    where
      kept : (d : Cell) → map.get S q ≡ Some d → gone q ≡ false → IsCellAt (without S gone) q (left_in d)
      kept d at stays =
          cell-kept (without S gone) q d (set.retain d.holders (λ s. not (gone s))) (cells q d at)
          (contains-retain d.holders (λ s. not (gone s)) q ∙ (λ i. (cells q d at).own i && not (stays i))) alike
        where
          alike : (other : Slot) → IsTrue (set.contains (set.retain d.holders (λ s. not (gone s))) other)
              → (f : Cell) × (map.get (without S gone) other ≡ Some f) × (f.holders ≡ set.retain d.holders (λ s. not (gone s))) × (f.bytes ≡ d.bytes)
          alike other inside =
              let a = both_true (set.contains d.holders other) (not (gone other)) (sym (contains-retain d.holders (λ s. not (gone s)) other) ∙ inside) in
              let o = (cells q d at).alike other a.0 in
              (left_in o.0, without-stays other o.0 o.1 (not-true (gone other) a.1), ap (λ (h : Set slot_order). set.retain h (λ s. not (gone s))) o.2, o.3)
