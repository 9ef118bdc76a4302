-- What kept translations that the walks give still make of an access.
use Rattle.kernel_calls.proofs.Prelude.{◌≡◌, ℕ, ◌+◌, ◌*◌, ◌<◌, ◌^◌, Bool, true, refl, ap, sym, ◌∙◌, subst, arith, Option, Some, is_some, IfSome, Ok, slice_index, page_number, offset_number, byte_count, second_page, page_and, touched, EachTouched, Size, Access, Read, walk_of, directory_at, Slot, Cell, Spaces, at_page, accessed, all_accessed, value_of, IsThere, with_touched-same, each_byte, walk_named, memory_of, State, View, each_page, answer, after, next, completes, reply_found, Call, byte_place, same_each, Serves, ServesCall, reply_kept, IsLoad, KeptFind, KeptReply, KeptLoads, KeptStores, LeadTo, kept_place, insert_there}
use Rattle.kernel_calls.proofs.Decided.{next-stays, next-goes}
use Rattle.page_words.specs.FiniteMap as map
use Rattle.kernel_calls.specs.declared.calls.Call.TheVariants as call
use Rattle.kernel_calls.specs.declared.calls.Reply.TheVariants as reply

module _ (v : View) (p : ℕ) where
  -- the page of a translation that serves has 20 bits, so that its addresses have 32
  pub small_page : (page frame : ℕ) (access : Access) → Serves v p page frame access → page < 2 ^ 20
  small_page page frame access s = subst (λ n. n < 2 ^ 20) (ap (λ (q : Slot). q.page) s.of_page) s.given.page

  -- the process has the directory that it was given by
  pub live : (page frame : ℕ) (access : Access) (s : Serves v p page frame access) → directory_at (memory_of v) p ≡ Some s.given.directory
  live page frame access s = sym (ap (λ (q : Slot). directory_at (memory_of v) q.pid) s.of_page) ∙ s.given.live

  -- each walk of its page finds its frame
  pub leads : (page frame a : ℕ) (access : Access) (s : Serves v p page frame access) → page_number a ≡ page
      → walk_of v.bytes s.given.directory a access ≡ Ok frame
  leads page frame a access s here = grind (arith, small_page)

  pub all_lead : (frames : ℕ → ℕ) (address d : ℕ) (size : Size) (access : Access)
      → EachTouched address size (λ page. Serves v p page (frames page) access) → directory_at (memory_of v) p ≡ Some d
      → LeadTo v.bytes d access frames address size
  all_lead frames address d size access served is i l = grind (arith, live, leads, each_byte)

-- ---- The laws

pub kept_find : KeptFind
kept_find v frames e served = grind (arith, small_page, live, leads)

pub kept_reply : KeptReply
kept_reply v frames e d served is = by e.call served
  where
    by : (c : Call) → ServesCall v e.pid frames c → reply_found v.bytes d c ≡ reply_kept frames v.bytes c
    by (call.Load addr size) h =
        let lead = all_lead v e.pid frames addr d size Read h is in
        ap reply.Value (ap value_of (same_each (λ a. slice_index v.bytes (byte_place v.bytes d a)) (λ a. slice_index v.bytes (kept_place frames a)) addr (byte_count size)
        (λ i l. ap (λ n. slice_index v.bytes (4096 * n + offset_number (addr + i)))
        (sym (walk_named v.bytes d (addr + i) (frames (page_number (addr + i))) Read (lead i l))))))
    by (call.Store addr size value) h = refl
    by _ h = absurd h

-- what is mapped and accessed already
pub record Touched (S : Spaces) (p page : ℕ) : Type 0 where
  pub cell : Cell
  pub there : map.get S (at_page p page) ≡ Some cell
  pub set : cell.accessed ≡ true

touched_by : (v : View) (p page frame : ℕ) (access : Access) → Serves v p page frame access → Touched v.state.spaces p page
touched_by v p page frame access s = record {
  cell = s.given.cell;
  there = sym (ap (map.get v.state.spaces) s.of_page) ∙ s.given.mapped;
  set = s.given.accessed;
}

accessed_same : (S : Spaces) (p page : ℕ) → Touched S p page → accessed S (at_page p page) ≡ S
accessed_same S p page t = grind (arith, insert_there)

pub loaded_same : (s : State) (p address : ℕ) (size : Size) → EachTouched address size (Touched s.spaces p)
    → after s p (call.Load address size) ≡ s
loaded_same s p address size all =
    let there : EachTouched address size (IsThere s.spaces p) = each_page address size (Touched s.spaces p) (IsThere s.spaces p) (λ page t. ap is_some t.there) all in
    (λ i. record s { spaces = all_accessed (with_touched-same s.spaces p address size there i) p (touched address size) })
    ∙ ap (λ S. record s { spaces = S }) (by (second_page address size) all.1)
  where
    by : (x : Option ℕ) → IfSome x (Touched s.spaces p) → all_accessed s.spaces p (page_and (page_number address) x) ≡ s.spaces
    by x h = grind (arith, accessed_same)

pub kept_loads : KeptLoads
kept_loads v frames e served load = by (completes (answer v.state e)) refl
  where
    same : (c : Call) → ServesCall v e.pid frames c → IsLoad c → after v.state e.pid c ≡ v.state
    same c h k = grind (arith, loaded_same, each_page, touched_by)

    by : (b : Bool) → completes (answer v.state e) ≡ b → next v.state e ≡ v.state
    by b is = grind (arith, next-stays, next-goes, same)

pub kept_stores : KeptStores
kept_stores v frames e served store = grind (arith, each_page)
