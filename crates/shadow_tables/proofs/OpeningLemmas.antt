-- Tables over frames that are all free, and roots that lie in the pool.
use Rattle.std.proofs.Common.{◌≡◌, ℕ, ◌<◌, length, take, replicate, Option, Some, None, refl, sym, ap, ◌∙◌, arith}
use Rattle.std.specs.Prelude.{slice_index, slice_set, slice_index_or, IfSome}
use Rattle.std.proofs.lemmas.List.{get_or-set_same, get_or-set_other, get_or-replicate, get_or-take, length-set, length-take-le, length-replicate, ext_get_or}
use Rattle.shadow_tables.specs.declared.tables.Tables.{Tables}
use Rattle.shadow_tables.specs.Shadow.{opening}
use Rattle.shadow_tables.specs.Holdings.{count_of, AreHeld, opening_places}
use Rattle.shadow_tables.specs.Tables.{frames_of, way, AreBlocks, IsShadow, translations_in, seen_as}
use Rattle.shadow_tables.proofs.WayLemmas.{nothing_after, none_some}
use Rattle.shadow_tables.proofs.SlotLemmas.{translations-none}
use Rattle.page_words.specs.FiniteMap as map

-- a root lies in the pool
pub root_inside : (t : Tables) (p : ℕ) → IsShadow t → p < 64 → IfSome (slice_index_or t.roots p None) (λ frame. frame < frames_of t)
root_inside t p stands process = by (slice_index_or t.roots p None) refl
  where
    by : (o : Option ℕ) → slice_index_or t.roots p None ≡ o → IfSome o (λ frame. frame < frames_of t)
    by None is = tt
    by (Some frame) is = (stands.1.roots p frame process is).inside

-- no process has a root, and all frames are free
pub record Opened (t : Tables) : Type 0 where
  pub held : AreHeld opening_places t.holdings
  pub counts : t.holdings.counts ≡ slice_set (replicate 65 0) 64 (frames_of t)
  pub roots : t.roots ≡ replicate 64 None
  pub blocks : AreBlocks t

no_root : (t : Tables) (p : ℕ) → t.roots ≡ replicate 64 None → p < 64 → way t p 0 0 ≡ None
no_root t p roots process = ap (λ r. slice_index_or r p None) roots ∙ get_or-replicate 64 p None None process

pub opened_stands : (t : Tables) → Opened t → IsShadow t
opened_stands t is = (
  opening_places,
  record {
    held = is.held;
    blocks = is.blocks;
    roots = λ p frame process root. absurd (none_some frame (sym (no_root t p is.roots process) ∙ root));
    rooted = λ p process _. ap (λ xs. slice_index xs p) is.counts ∙ get_or-set_other (replicate 65 0) 64 p (frames_of t) 0 (omega (arith, process)) ∙ get_or-replicate 65 p 0 0 (omega (arith, process));
    tables = λ frame _ process. absurd (omega (arith, process));
  },
)

pub no_translations : (t : Tables) → t.roots ≡ replicate 64 None → translations_in t ≡ map.empty
no_translations t roots = translations-none t (λ p page process. nothing_after t p page 0 (omega arith) (no_root t p roots process))

front : (n : ℕ) → take 64 (slice_set (replicate 65 0) 64 n) ≡ replicate 64 0
front n =
    let long : length {A = ℕ} (replicate 65 0) ≡ 65 = length-replicate {A = ℕ} 65 0 in
    let size : length (take 64 (slice_set (replicate 65 0) 64 n)) ≡ 64 = length-take-le 64 (slice_set (replicate 65 0) 64 n) (omega (arith, length-set (replicate 65 0) 64 n, long)) in
    ext_get_or 0 _ _ (size ∙ sym (length-replicate {A = ℕ} 64 0)) (λ k l.
    let below : k < 64 = omega (arith, size) in
    get_or-take 64 (slice_set (replicate 65 0) 64 n) k 0 below ∙ get_or-set_other (replicate 65 0) 64 k n 0 (omega arith) ∙ get_or-replicate 65 k 0 0 (omega arith) ∙ sym (get_or-replicate 64 k 0 0 below))

pub opened_seen : (t : Tables) → Opened t → seen_as t ≡ opening t.bytes.items (frames_of t) t.pool t.block t.kernel.items
opened_seen t is =
    let free : count_of t.holdings 64 ≡ frames_of t = ap (λ xs. slice_index xs 64) is.counts ∙ get_or-set_same (replicate 65 0) 64 (frames_of t) 0 (omega (arith, length-replicate {A = ℕ} 65 0)) in
    let taken : take 64 t.holdings.counts ≡ replicate 64 0 = ap (take 64) is.counts ∙ front (frames_of t) in
    let none = no_translations t is.roots in
    λ i. record { translations = none i; roots = is.roots i; taken = taken i; free = free i; bytes = t.bytes.items; pool = t.pool; block = t.block; kernel = t.kernel.items }
