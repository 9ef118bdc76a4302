-- Whose each frame of the pool is: each process's, and the free ones, are in a list of their own, from the frame that
-- was taken last.
use Rattle.std.specs.Prelude.{◌≡◌, ◌≢◌, ℕ, suc, ◌+◌, ◌^◌, ◌<◌, ◌≤◌, ◌==◌, if◌then◌else◌, sum, length, slice_index, slice_set}
use Rattle.shadow_tables.specs.declared.holdings.Holdings.{Holdings}

-- what there is to say of a frame
pub record Place : Type 0 where
  -- the process that holds it, or 64 for a free one
  pub owner : ℕ
  -- how many frames its owner took before it
  pub rank : ℕ
  -- of a process's: how many tables lead to it, and the bits above those that it translates, of each address for which
  -- it is used
  pub depth : ℕ
  pub prefix : ℕ

-- the place of each frame
abbrev pub Places : Type 0
Places = ℕ → Place

-- the places, where one is another
abbrev pub with_place : Places → ℕ → Place → Places
with_place places frame place f = if f == frame then place else places f

-- how many frames an owner has
abbrev pub count_of : Holdings → ℕ → ℕ
count_of h owner = slice_index h.counts owner

-- the frame that an owner took last
abbrev pub last_of : Holdings → ℕ → ℕ
last_of h owner = slice_index h.heads owner

-- the frame that its owner took before this one
abbrev pub before : Holdings → ℕ → ℕ
before h frame = slice_index h.next.items frame

-- how many frames there are
abbrev pub frame_count : Holdings → ℕ
frame_count h = length h.next.items

-- a frame that an owner took after this many others
pub record IsNth (places : Places) (h : Holdings) (owner rank frame : ℕ) : Type 0 where
  pub inside : frame < frame_count h
  pub owner_is : (places frame).owner ≡ owner
  pub rank_is : (places frame).rank ≡ rank

-- lists that hold each frame once, of 64 processes and of the free ones
pub record AreHeld (places : Places) (h : Holdings) : Type 0 where
  pub heads : length h.heads ≡ 65
  pub counts : length h.counts ≡ 65
  pub most : frame_count h < 2 ^ 32
  pub all : sum h.counts ≡ frame_count h
  pub owners : (f : ℕ) → f < frame_count h → (places f).owner ≤ 64
  pub once : (f g : ℕ) → f < frame_count h → g < frame_count h → (places f).owner ≡ (places g).owner → (places f).rank ≡ (places g).rank → f ≡ g
  pub ranks : (f : ℕ) → f < frame_count h → (places f).rank < count_of h (places f).owner
  pub last : (owner k : ℕ) → owner ≤ 64 → count_of h owner ≡ suc k → IsNth places h owner k (last_of h owner)
  pub next : (f k : ℕ) → f < frame_count h → (places f).rank ≡ suc k → IsNth places h (places f).owner k (before h f)

-- there are such lists
abbrev pub IsHeld : Holdings → Type 0
IsHeld h = (places : Places) × AreHeld places h

-- at first, all are free, and were taken in sequence
abbrev pub opening_places : Places
opening_places f = record { owner = 64; rank = f; depth = 0; prefix = 0 }

-- the place of a frame that an owner takes next, as a table
abbrev pub next_place : Holdings → ℕ → ℕ → ℕ → Place
next_place h owner depth prefix = record { owner = owner; rank = count_of h owner; depth = depth; prefix = prefix }

-- an owner took a free frame
pub record IsTakenBy (old : Holdings) (owner frame : ℕ) (new : Holdings) : Type 0 where
  pub inside : frame < frame_count old
  pub frames : frame_count new ≡ frame_count old
  pub was_free : (places : Places) → AreHeld places old → (places frame).owner ≡ 64
  pub held : (places : Places) (depth prefix : ℕ) → AreHeld places old → AreHeld (with_place places frame (next_place old owner depth prefix)) new
  pub free : count_of old 64 ≡ count_of new 64 + 1
  pub owned : count_of new owner ≡ count_of old owner + 1
  pub others : (q : ℕ) → q ≢ owner → q ≢ 64 → count_of new q ≡ count_of old q

-- the place of a frame, once all of an owner's are free: they were taken after those that were free before
abbrev pub released_place : Holdings → ℕ → Place → Place
released_place h owner place = if place.owner == owner then record place { owner = 64; rank = place.rank + count_of h 64 } else place

-- all frames of an owner are free
pub record IsReleased (old : Holdings) (owner first : ℕ) (new : Holdings) : Type 0 where
  pub frames : frame_count new ≡ frame_count old
  pub held : (places : Places) → AreHeld places old → IsNth places old owner 0 first → AreHeld (λ f. released_place old owner (places f)) new
  pub counts : new.counts ≡ slice_set (slice_set old.counts 64 (count_of old 64 + count_of old owner)) owner 0
