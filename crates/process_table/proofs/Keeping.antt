-- Each call whose test passes keeps states well formed.
use Rattle.process_table.proofs.Prelude.{◌≡◌, ℕ, Bool, true, false, refl, sym, ap, subst, ◌∙◌, length, Option, Some, None, arith, if◌then◌else◌, IsOk, IfSome, byte_count, page_number, offset_number, second_page, touched, EachTouched, Size, Spaces, cost, slot_at, stored, with_pages, all_accessed, all_stored, bytes_of, IsThere, bytes_there, key-all_accessed, key-all_stored, with_touched-same, cost-same, Containers, Offers, Read, Write, State, is_live, child_of, container_of, map_refusal, accept_refusal, spawn_refusal, exit_refusal, after_map, after_accept, after_spawn, after_exit, after_access, child_unless, map_answer, accept_answer, spawn_answer, exit_answer, IsProcesses, IsWhole, state_of, IsWellFormed, Cause, NoProcess}
use Rattle.address_space.proofs.steps.Bytes.{stored_in_page}
use Rattle.table_walk.specs.declared.Access.{Access}
use Rattle.process_table.proofs.BookLaws.{well_formed-spawn, well_formed-exit}
use Rattle.process_table.proofs.Charged.{charged-same}
use Rattle.process_table.proofs.Refusals.{no_cause}
use Rattle.process_table.proofs.SharingLaws.{well_formed-accept}
use Rattle.process_table.proofs.SpaceLaws.{well_formed-map, well_formed-loaded, well_formed-bytes}
use Rattle.address_space.specs.View as frames

-- parts that agree are whole where the state that they make is well formed
pub whole : (v : frames.View) (c : Containers) (o : Offers) (s : State) → IsProcesses v c → v.spaces ≡ s.spaces → c.book ≡ s.book → o ≡ s.offers → IsWellFormed s → IsWhole v c o
whole v c o s kept spaces book offers w = record { kept = kept; well_formed = subst IsWellFormed (λ i. record { spaces = sym spaces i; book = sym book i; offers = sym offers i }) w }

pub keeps-map : (s : State) (p page : ℕ) (write : Bool) → IsWellFormed s → IsOk (map_answer s p page) → IsWellFormed (after_map s p page write)
keeps-map s p page write w ok = let e = no_cause s p (map_refusal s p page) _ ok in well_formed-map s p page write w e.0 e.1

pub keeps-accept : (s : State) (p giver giver_page page : ℕ) → IsWellFormed s → IsOk (accept_answer s p giver giver_page page) → IsWellFormed (after_accept s p giver giver_page page)
keeps-accept s p giver giver_page page w ok = let e = no_cause s p (accept_refusal s p giver giver_page page) _ ok in well_formed-accept s p giver giver_page page w e.0 e.1

pub keeps-exit : (s : State) (p : ℕ) → IsWellFormed s → IsOk (exit_answer s p) → IsWellFormed (after_exit s p)
keeps-exit s p w ok = let e = no_cause s p (exit_refusal s p) _ ok in well_formed-exit s p w e.0 e.1

pub keeps-spawn : (s : State) (p quota : ℕ) → IsWellFormed s → IsOk (spawn_answer s p quota) → IsWellFormed (after_spawn s p quota)
keeps-spawn s p quota w ok = by (is_live s p) (spawn_refusal s p quota) ok refl refl
  where
    by : (live : Bool) (x : Option Cause) → IsOk (child_unless (if live then x else Some NoProcess) (child_of s)) → is_live s p ≡ live → spawn_refusal s p quota ≡ x → IsWellFormed (after_spawn s p quota)
    by true None h live is = well_formed-spawn s p quota w live is
    by true (Some c) h live is = cc
    by false x h live is = cc

-- ---- Accesses

-- an access of mapped pages
pub keeps-access : (s : State) (p address : ℕ) (size : Size) (access : Access) (value : ℕ) → IsWellFormed s → EachTouched address size (IsThere s.spaces p) → IsWellFormed (after_access s p address size access value)
keeps-access s p address size access value w there = by access
  where
    same : s.spaces ≡ with_pages s.spaces p (touched address size)
    same = sym (with_touched-same s.spaces p address size there)

    by : (access : Access) → IsWellFormed (after_access s p address size access value)
    by Read = subst (λ (T : Spaces). IsWellFormed (record s { spaces = all_accessed T p (touched address size) })) same (well_formed-loaded s p address size w there)
    by Write = subst (λ (T : Spaces). IsWellFormed (record s { spaces = all_stored T p address (bytes_of (byte_count size) value) })) same (well_formed-bytes s p address (byte_count size) value w (bytes_there s.spaces p address size there))

-- nobody's cost changes by it
pub cost-access : (s : State) (p address : ℕ) (size : Size) (access : Access) (value : ℕ) → EachTouched address size (IsThere s.spaces p) → (q : ℕ) → cost (after_access s p address size access value).spaces q ≡ cost s.spaces q
cost-access s p address size access value there q =
    grind (arith, with_touched-same, cost-same, key-all_accessed, key-all_stored, bytes_there)

-- nor what else is told of anybody
pub container-access : (s t : State) (p address : ℕ) (size : Size) (access : Access) (value : ℕ) → EachTouched address size (IsThere s.spaces p) → t ≡ after_access s p address size access value → (q : ℕ) → container_of t q ≡ container_of s q
container-access s t p address size access value there is q = grind (arith, cost-access)

-- and the parts stay whole
pub whole-access : (v w : frames.View) (c : Containers) (o : Offers) (p address : ℕ) (size : Size) (access : Access) (value : ℕ) → IsWhole v c o → EachTouched address size (IsThere v.spaces p)
    → w.directories ≡ v.directories → w.roles ≡ v.roles → state_of w c o ≡ after_access (state_of v c o) p address size access value → IsWhole w c o
whole-access v w c o p address size access value is there directories roles state = record {
  kept = charged-same v w c is.kept directories (ap length roles) (λ q. ap (λ (s : State). cost s.spaces q) state ∙ cost-access (state_of v c o) p address size access value there q);
  well_formed = subst IsWellFormed (sym state) (keeps-access (state_of v c o) p address size access value is.well_formed there);
}

pub keeps-store_in_page : (s : State) (p address : ℕ) (size : Size) (value : ℕ) → IsWellFormed s → second_page address size ≡ None → IsThere s.spaces p (page_number address)
    → IsWellFormed (record s { spaces = stored s.spaces (slot_at p address) (offset_number address) (bytes_of (byte_count size) value) })
keeps-store_in_page s p address size value w none there =
    subst (λ (T : Spaces). IsWellFormed (record s { spaces = T })) (stored_in_page s.spaces p address size value none)
    (well_formed-bytes s p address (byte_count size) value w (bytes_there s.spaces p address size ((there, subst (λ x. IfSome x (IsThere s.spaces p)) (sym none) tt))))
