-- What the tests say of the records that pass them.
use Rattle.std.proofs.Common.{◌≡◌, ℕ, ◌+◌, ◌<◌, ◌≤◌, Bool, true, false, not, ◌&&◌, refl, None}
use Rattle.std.specs.Prelude.{if◌then◌else◌, nat_lt, nat_le, ◌==◌}
use Rattle.std.proofs.lemmas.Bool.{and_parts, ltb-true, leb-true}
use Rattle.alloc_table.specs.declared.Role.TheVariants.{Reserved, Free, Directory, Table, Page}
use Rattle.alloc_table.specs.Roles.{is_free}
use Rattle.memory_image.specs.Reading.{role_of_numbers}
use Rattle.memory_image.specs.Refusals.{role_tests}
use Rattle.memory_image.specs.Tests.{first_failing}
use Rattle.memory_image.proofs.ReadingLemmas.{chosen}
use Rattle.wide_image.specs.Offers.{rank}
use Rattle.wide_image.specs.Faults.{offer_tests, frame_tests}

-- an offer that passes its tests
pub record OfferKept (f o p t r : ℕ) : Type 0 where
  pub offerer : o < 64
  pub page : p < 983040
  pub target : t < 64
  pub right : r ≤ 1
  pub from : f ≤ rank o p t

pub offer_kept : (from place offerer page target right : ℕ) → first_failing (offer_tests from place offerer page target right) ≡ None → OfferKept from offerer page target right
offer_kept from place offerer page target right h =
    let a = chosen (nat_lt offerer 64) _ _ h in
    let b = chosen (nat_lt page 983040) _ _ a.1 in
    let c = chosen (nat_lt target 64) _ _ b.1 in
    let d = chosen (nat_le right 1) _ _ c.1 in
    let e = chosen (nat_le from (rank offerer page target)) _ _ d.1 in
    record { offerer = ltb-true offerer 64 a.0; page = ltb-true page 983040 b.0; target = ltb-true target 64 c.0; right = leb-true right 1 d.0; from = leb-true from (rank offerer page target) e.0 }

-- a frame's record that passes its tests
pub record FrameKept (n low place f r p s c : ℕ) : Type 0 where
  pub from : low ≤ f
  pub inside : f < n
  pub used : is_free (role_of_numbers r p s c) ≡ false
  pub role : first_failing (role_tests (place + 4) r p s c) ≡ None

used_role : (role pid slot count : ℕ) → (not (role == 1)) ≡ true → is_free (role_of_numbers role pid slot count) ≡ false
used_role role pid slot count h = by (role == 0) (role == 1) (role == 2) (role == 3) h
  where
    by : (a b c d : Bool) → not b ≡ true → is_free (if a then Reserved else if b then Free else if c then Directory pid else if d then Table pid slot else Page count) ≡ false
    by true b c d h = refl
    by false true c d h = cc
    by false false true d h = refl
    by false false false true h = refl
    by false false false false h = refl

pub frame_kept : (n from place frame role pid slot count : ℕ) → first_failing (frame_tests n from place frame role pid slot count) ≡ None → FrameKept n from place frame role pid slot count
frame_kept n from place frame role pid slot count h =
    let a = chosen (nat_le from frame && nat_lt frame n) _ _ h in
    let b = and_parts (nat_le from frame) (nat_lt frame n) a.0 in
    let c = chosen (not (role == 1)) _ _ a.1 in
    record { from = leb-true from frame b.0; inside = ltb-true frame n b.1; used = used_role role pid slot count c.0; role = c.1 }
