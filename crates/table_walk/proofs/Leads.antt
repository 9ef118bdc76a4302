-- When a walk finds a frame.
use Rattle.std.proofs.Common.{◌≡◌, ℕ, ◌*◌, ◌<◌, Bool, true, false, List, length, arith}
use Rattle.std.specs.Prelude.{Result, Ok, Err, IsOk, if◌then◌else◌, not, ◌&&◌}
use Rattle.std.proofs.lemmas.Bool.{not-false}
use Rattle.page_words.specs.Words.{frame_number}
use Rattle.table_walk.specs.declared.Access.{Access}
use Rattle.table_walk.specs.declared.Access.TheVariants.{Write}
use Rattle.table_walk.specs.declared.PageFault.{PageFault}
use Rattle.table_walk.specs.declared.WalkEnd.{WalkEnd}
use Rattle.table_walk.specs.declared.WalkEnd.TheVariants.{Fault}
use Rattle.table_walk.specs.Walk.{walk_of, dir_word, is_write, Leads, WalksFindWhatLeads}

found : (bytes : List ℕ) (directory address : ℕ) (access : Access) (frame : ℕ)
    → Leads bytes directory address access frame → walk_of bytes directory address access ≡ Ok frame
unfolding walk_of
found bytes directory address access frame h = grind arith

-- a choice that gives Ok, though its first side does not, took the second
else_taken : {A E : Type 0} (b : Bool) (l r : Result A E) (x : A) → (l ≡ Ok x → ⊥) → (if b then l else r) ≡ Ok x → (b ≡ false) × (r ≡ Ok x)
else_taken b l r x n h = grind arith

fault_no_frame : (fault : PageFault) (frame : ℕ) → ◌≡◌ {A = Result ℕ WalkEnd} (Err (Fault fault)) (Ok frame) → ⊥
fault_no_frame fault frame h = cc

both : (a b : Bool) → not (a && b) ≡ false → (a ≡ true) × (b ≡ true)
both a b h = grind arith

right_of : (access : Access) (a b : Bool) → (is_write access && not (a && b)) ≡ false → access ≡ Write → (a ≡ true) × (b ≡ true)
right_of access a b h e = grind (arith, both)

frame_of : (n f : ℕ) → (let ok : Result ℕ WalkEnd = Ok n in ok ≡ Ok f) → f ≡ n
frame_of n f e = cc

pub leads : (bytes : List ℕ) (directory address : ℕ) (access : Access) (frame : ℕ)
    → walk_of bytes directory address access ≡ Ok frame → Leads bytes directory address access frame
unfolding walk_of
leads bytes directory address access frame e =
    grind (arith, else_taken, fault_no_frame, frame_of, not-false, both, right_of)

pub walks_find_what_leads : WalksFindWhatLeads
walks_find_what_leads bytes directory address access frame = (leads bytes directory address access frame, found bytes directory address access frame)

pub ok_value : {A E : Type 0} (r : Result A E) → IsOk r → (x : A) × (r ≡ Ok x)
ok_value r h = grind arith

-- a walk that finds a frame is led to it
pub walked : (bytes : List ℕ) (directory address : ℕ) (access : Access) (h : IsOk (walk_of bytes directory address access))
    → Leads bytes directory address access (ok_value (walk_of bytes directory address access) h).0
walked bytes directory address access h = grind (arith, ok_value, leads)

-- the frames of a walk that finds one lie in memory
pub walked_directory : (bytes : List ℕ) (directory address : ℕ) (access : Access) → IsOk (walk_of bytes directory address access) → 4096 * directory < length bytes
walked_directory bytes directory address access h = (walked bytes directory address access h).directory_inside

pub walked_table : (bytes : List ℕ) (directory address : ℕ) (access : Access) → IsOk (walk_of bytes directory address access)
    → 4096 * frame_number (dir_word bytes directory address) < length bytes
walked_table bytes directory address access h = (walked bytes directory address access h).table_inside
