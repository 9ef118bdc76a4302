-- Small images, computed: that the definitions say what was meant.
use Rattle.std.proofs.Common.{◌≡◌, ℕ, List, [], ◌∷◌, ◌++◌, replicate, refl, Some, None}
use Rattle.phys_memory.specs.Bytes.{frame_bytes, word_at}
use Rattle.alloc_table.specs.declared.Role.{Role}
use Rattle.alloc_table.specs.declared.Role.TheVariants.{Reserved, Free, Directory, Table, Page}
use Rattle.image_check.specs.declared.clauses.ProcessClause.TheVariants as of_process
use Rattle.image_check.specs.declared.clauses.FrameClause.TheVariants as of_frame
use Rattle.memory_image.specs.declared.processes.Process.{Process}
use Rattle.memory_image.specs.Image.{Image}
use Rattle.image_check.specs.Counts.{all_range}
use Rattle.image_check.specs.Verdict.{process_clause, frame_clause, links_tables}

-- a machine of 16 frames as it boots, but for the bytes that its frames have
root_with : ℕ → ℕ → Process
root_with quota directory = record { parent = 0; quota = quota; used = 1; given = 0; directory = directory }

abbrev with_root : Process → Role → List ℕ → Image
with_root root role bytes = record { version = 2; processes = Some root ∷ replicate 63 None; roles = Reserved ∷ Directory 0 ∷ role ∷ replicate 13 Free; bytes = bytes }

-- a quota of 16
other_quota : process_clause (with_root (root_with 16 1) Free []) 0 ≡ Some of_process.Parent
unfolding root_with
other_quota = refl

-- no process at all
no_root : process_clause (record { version = 2; processes = replicate 64 None; roles = replicate 16 Free; bytes = [] }) 0 ≡ Some of_process.Parent
no_root = refl

other_dead : process_clause (with_root (root_with 15 1) Free []) 5 ≡ None
other_dead = refl

-- its directory is frame 0, or another's
no_directory : process_clause (with_root (root_with 15 0) Free []) 0 ≡ Some of_process.Directory
unfolding root_with
no_directory = refl

free_directory : process_clause (with_root (root_with 15 3) Free []) 0 ≡ Some of_process.Directory
unfolding root_with
free_directory = refl

-- word 0 of its directory is 1
low_word : process_clause (with_root (root_with 15 1) Free (replicate 4096 0 ++ (1 ∷ 0 ∷ 0 ∷ 0 ∷ []))) 0 ≡ Some of_process.Tables
unfolding root_with links_tables all_range word_at frame_bytes
low_word = refl

-- frame 2 has a role that nothing gives it
stray_directory : frame_clause (with_root (root_with 15 1) (Directory 3) []) 2 ≡ Some of_frame.Directory
stray_directory = refl

stray_table : frame_clause (with_root (root_with 15 1) (Table 0 256) []) 2 ≡ Some of_frame.Table
unfolding root_with word_at frame_bytes
stray_table = refl

stray_reserved : frame_clause (with_root (root_with 15 1) Reserved []) 2 ≡ Some of_frame.Reserved
stray_reserved = refl

no_holder : frame_clause (with_root (root_with 15 1) (Page 0) []) 2 ≡ Some of_frame.Page
no_holder = refl

-- frame 0 holds another byte than 0
not_blank : frame_clause (with_root (root_with 15 1) Free (0 ∷ 0 ∷ 0 ∷ 0 ∷ 1 ∷ [])) 0 ≡ Some of_frame.Reserved
unfolding frame_bytes
not_blank = refl
