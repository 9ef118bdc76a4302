-- What refuses a snapshot that is read piece by piece is the first reason against its bytes, as they are read.
use Rattle.std.proofs.Common.{◌≡◌, ◌≢◌, ℕ, ◌+◌, ◌<◌, ◌≤◌, List, [], ◌∷◌, ◌++◌, length, length-append, take, append_assoc, append-nil, refl, sym, ap, subst, ◌∙◌, arith, inl, inr, Option, Some, None}
use Rattle.std.specs.Io.KnownBytes.{Consumes, IsAtEnd}
use Rattle.std.specs.Prelude.{◌⊎◌, IfSome}
use Rattle.std.proofs.lemmas.Bool.{cases_lt}
use Rattle.std.proofs.lemmas.List.{take_all, take_at}
use Rattle.wide_image.specs.declared.faults.WideImageFault.{WideImageFault}
use Rattle.wide_image.specs.declared.faults.WideImageFault.TheVariants.{BadLength}
use Rattle.wide_image.specs.declared.streams.WideReadFault.{WideReadFault}
use Rattle.wide_image.specs.declared.streams.WideReadFault.TheVariants.{ReadFailed, NotRead}
use Rattle.wide_image.specs.Pieces.{Begun, IsBegun, front_fault, piece_fault, so_far, wanted}
use Rattle.wide_image.specs.Streams.{EndsElsewhere, HasMore, IsOfLength, IsShort, NamesBehind, NamesReason, RefusesPiece}

-- the front that was read is all that can be one
front_is : (xs ys front : List ℕ) → xs ≡ front ++ ys → (length front < 1556 → ys ≡ []) → length front ≤ 1556 → take 1556 xs ≡ front
front_is xs ys front used ended most = by (cases_lt (length front) 1556)
  where
    by : (length front < 1556) ⊎ (1556 ≤ length front) → take 1556 xs ≡ front
    by (inl few) = let whole : xs ≡ front = used ∙ (ap (λ t. front ++ t) (ended few) ∙ append-nil front) in take_all 1556 xs (let l = ap length whole in omega arith) ∙ whole
    by (inr all) = ap (take 1556) used ∙ take_at front ys 1556 (omega arith)

-- a front that is refused
pub front_named : (before after : Option (List ℕ)) (front : List ℕ) (fault : WideImageFault) → Consumes before after front → (length front < 1556 → IsAtEnd after) → length front ≤ 1556
    → front_fault front ≡ Some fault → IfSome before (λ bytes. NamesReason ([] ++ bytes) fault)
front_named None after front fault used ended most is = tt
front_named (Some xs) None front fault used ended most is = absurd used
front_named (Some xs) (Some ys) front fault used ended most is = inl (ap front_fault (front_is xs ys front used ended most) ∙ is)

module _ (b : Begun) (K : IsBegun b) where
  -- a piece that is refused
  pub piece_named : (before after : Option (List ℕ)) (piece : List ℕ) (fault : WideImageFault) → Consumes before after piece → 0 < wanted b → length piece ≡ wanted b
      → piece_fault b piece ≡ Some fault → IfSome before (λ bytes. NamesReason (so_far b ++ bytes) fault)
  piece_named None after piece fault used some long is = tt
  piece_named (Some xs) None piece fault used some long is = absurd used
  piece_named (Some xs) (Some ys) piece fault used some long is = inr (inl (record {
    begun = b;
    kept = K;
    piece = piece;
    rest = ys;
    all = ap (λ t. so_far b ++ t) used;
    some = some;
    long = long;
    refused = is;
  }))

  -- a piece that ends too early
  pub short_named : (remaining : Option (List ℕ)) (count : ℕ) (fault : WideReadFault) → count ≡ wanted b → IsShort remaining count fault → IsOfLength fault → NamesBehind (so_far b) remaining fault
  short_named remaining count ReadFailed is short sized = tt
  short_named None count (NotRead fault) is short sized = inr tt
  short_named (Some xs) count (NotRead fault) is short sized = inr (inr (inr (
    sized,
    record {
      begun = b;
      kept = K;
      rest = xs;
      all = refl;
      elsewhere = inl (subst (λ n. length xs < n) is short);
    },
  )))

  -- bytes after the last piece
  pub more_named : (remaining : Option (List ℕ)) (fault : WideReadFault) → wanted b ≡ 0 → HasMore remaining fault → IsOfLength fault → NamesBehind (so_far b) remaining fault
  more_named remaining ReadFailed none more sized = tt
  more_named None (NotRead fault) none more sized = inr tt
  more_named (Some xs) (NotRead fault) none more sized = inr (inr (inr (
    sized,
    record {
      begun = b;
      kept = K;
      rest = xs;
      all = refl;
      elsewhere = inr (none, more);
    },
  )))

-- what is named behind bytes that were read is named of all
pub named_from : (text : List ℕ) (before now : Option (List ℕ)) (fault : WideReadFault) → Consumes before now text → NamesBehind text now fault → NamesBehind [] before fault
named_from text before now ReadFailed used named = tt
named_from text before now (NotRead fault) used (inl none) = inl none
named_from text before now (NotRead fault) used (inr reason) = inr (by before now used reason)
  where
    by : (before now : Option (List ℕ)) → Consumes before now text → IfSome now (λ bytes. NamesReason (text ++ bytes) fault) → IfSome before (λ bytes. NamesReason ([] ++ bytes) fault)
    by None now used reason = tt
    by (Some xs) None used reason = absurd used
    by (Some xs) (Some ys) used reason = subst (λ (t : List ℕ). NamesReason t fault) (sym used) reason
