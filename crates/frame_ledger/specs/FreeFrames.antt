-- The model of a ledger: the set of free frames, and the number of frames.
use Rattle.std.specs.Prelude.{◌≡◌, ℕ, ◌-◌, true, refl}
use Rattle.std.specs.List.{range_with_len}
use Rattle.std.specs.Coded.{Coded, code_by, coded×, coded_ℕ}
use Rattle.page_words.specs.FiniteMap.{nat_order}
use Rattle.page_words.specs.FiniteSet as set
use Rattle.page_words.specs.FiniteSet.{Set}
use Rattle.page_words.specs.Codes.{set_code}

-- a ledger's model: the free frames, among all frames
pub record FreeFrames : Type 0 where
  pub free : Set nat_order
  -- how many frames there are, free or not
  pub frames : ℕ

-- the code of a ledger's model
abbrev pub free_frames_code : Coded FreeFrames
free_frames_code =
    code_by (Set nat_order × ℕ) (coded× (set_code coded_ℕ) coded_ℕ) (λ l. (l.free, l.frames)) (λ p. record { free = p.0; frames = p.1 }) (λ _. refl)

-- all frames but frame 0
unfoldable pub opening : ℕ → FreeFrames
opening frames = record { free = set.from_list (range_with_len 1 (frames - 1)); frames = frames }

-- a frame is free
abbrev pub IsFree : FreeFrames → ℕ → Type 0
IsFree ledger frame = set.contains ledger.free frame ≡ true

-- a ledger with one more free frame
abbrev pub with_free : FreeFrames → ℕ → FreeFrames
with_free ledger frame = record { free = set.insert ledger.free frame; frames = ledger.frames }

-- a ledger with one free frame less
abbrev pub without_free : FreeFrames → ℕ → FreeFrames
without_free ledger frame = record { free = set.remove ledger.free frame; frames = ledger.frames }

-- a free frame was taken
pub record IsTakenFrom (old : FreeFrames) (frame : ℕ) (new : FreeFrames) : Type 0 where
  pub was_free : IsFree old frame
  pub now : new ≡ without_free old frame
