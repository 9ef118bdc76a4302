-- Bytes that begin with the four of a snapshot.
use Rattle.std.proofs.Common.{◌≡◌, ℕ, ◌&&◌, true, List, [], ◌∷◌, take}
use Rattle.std.specs.Prelude.{◌==◌}
use Rattle.std.proofs.lemmas.Bool.{and_parts, eqb-true}
use Rattle.wide_image.specs.FirstBytes.{begins_snapshot, snapshot_magic}

pub snapshot_so : (xs : List ℕ) → begins_snapshot xs ≡ true → take 4 xs ≡ snapshot_magic
snapshot_so [] h = cc
snapshot_so (a ∷ []) h = cc
snapshot_so (a ∷ b ∷ []) h = cc
snapshot_so (a ∷ b ∷ c ∷ []) h = cc
snapshot_so (a ∷ b ∷ c ∷ d ∷ rest) h =
    let k = and_parts (a == 0x6d && b == 0x43 && c == 0x32) (d == 0x57) h in
    let l = and_parts (a == 0x6d && b == 0x43) (c == 0x32) k.0 in
    let m = and_parts (a == 0x6d) (b == 0x43) l.0 in
    λ i. eqb-true a 0x6d m.0 i ∷ eqb-true b 0x43 m.1 i ∷ eqb-true c 0x32 l.1 i ∷ eqb-true d 0x57 k.1 i ∷ []
