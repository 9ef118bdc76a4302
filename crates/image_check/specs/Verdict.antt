-- The verdict: for each process and each frame the first clause that fails.
use Rattle.std.specs.Prelude.{◌≡◌, ◌↔◌, ℕ, ◌+◌, ◌<◌, Bool, true, false, ◌&&◌, ◌||◌, not, ◌==◌, nat_le, if◌then◌else◌, [], ◌∷◌, Option, Some, None, is_some}
use Rattle.std.specs.List.{list_all}
use Rattle.page_words.specs.Words.{frame_number}
use Rattle.phys_memory.specs.Bytes.{frame_bytes}
use Rattle.alloc_table.specs.declared.Role.{Role}
use Rattle.alloc_table.specs.declared.Role.TheVariants.{Reserved, Free, Directory, Table, Page}
use Rattle.address_space.specs.Image.{directory_at, word_of, is_user_slot, table_at}
use Rattle.image_check.specs.declared.clauses.ProcessClause.{ProcessClause}
use Rattle.image_check.specs.declared.clauses.ProcessClause.TheVariants as of_process
use Rattle.image_check.specs.declared.clauses.FrameClause.{FrameClause}
use Rattle.image_check.specs.declared.clauses.FrameClause.TheVariants as of_frame
use Rattle.memory_image.specs.declared.processes.Process.{Process}
use Rattle.memory_image.specs.Image.{Image, frames, process_at, role_at, memory_of, IsWideImage}
use Rattle.address_space.specs.ImageWords.{is_lazy_word}
use Rattle.memory_image.specs.Sound.{account_at, IsSound}
use Rattle.process_table.specs.Image.{quota_from}
use Rattle.memory_image.specs.Tests.{first_failing}
use Rattle.image_check.specs.Counts.{sum_range, all_range, is_this, tables_by, pages_by, names, maps, words_in}
use Rattle.image_check.specs.WordTests.{names_table, names_page}

-- ---- Roles

-- whether a role is that of process p's directory
abbrev pub is_directory_of : ℕ → Option Role → Bool
is_directory_of p (Some (Directory q)) = q == p
is_directory_of p _ = false

-- whether a role is that of process p's table for region s
abbrev pub is_table_of : ℕ → ℕ → Option Role → Bool
is_table_of p s (Some (Table q r)) = q == p && r == s
is_table_of p s _ = false

-- whether a role is that of a page
abbrev pub is_page : Option Role → Bool
is_page (Some (Page count)) = true
is_page _ = false

-- whether a role is Reserved
abbrev pub is_reserved : Option Role → Bool
is_reserved (Some Reserved) = true
is_reserved _ = false

-- ---- Processes

-- process 0 has all frames but frame 0 as its quota; any other has a live parent
abbrev pub has_parent : Image → ℕ → Process → Bool
has_parent image p r = if p == 0 then 1 + r.quota == frames image else is_some (process_at image r.parent)

-- its directory isn't frame 0, and has that role
abbrev pub has_directory : Image → ℕ → Process → Bool
has_directory image p r = not (r.directory == 0) && is_directory_of p (role_at image r.directory)

-- a directory word: 0, or in the user range the word of a table that has that role
abbrev pub links_table : Image → ℕ → ℕ → ℕ → Bool
links_table image p s word = word == 0 || (is_user_slot s && names_table word && is_table_of p s (role_at image (frame_number word)))

-- whether each word of a directory is clear or links a table
unfoldable pub links_tables : Image → ℕ → Process → Bool
links_tables image p r = all_range (λ s. links_table image p s (word_of (memory_of image) r.directory s)) 0 1024

-- a table word: 0, or the word of a page, whose frame has the role Page unless it is lazy
abbrev pub maps_page : Image → ℕ → Bool
maps_page image word = word == 0 || (names_page image.version word && (is_lazy_word image.version word || is_page (role_at image (frame_number word))))

-- a table has a present word, and each of its words is right
abbrev pub table_is_right : Image → Option ℕ → Bool
table_is_right image None = true
table_is_right image (Some t) = nat_le 1 (words_in image t) && all_range (λ i. maps_page image (word_of (memory_of image) t i)) 0 1024

-- whether the tables of process p have correct words
unfoldable pub maps_pages : Image → ℕ → Bool
maps_pages image p = all_range (λ s. table_is_right image (table_at (memory_of image) p s)) 256 704

-- a directory, its tables and their pages
abbrev pub uses_its_frames : Image → ℕ → Process → Bool
uses_its_frames image p r = r.used == 1 + tables_by image p + pages_by image p

-- what the children of a process have of its quota
unfoldable pub quotas_from : Image → ℕ → ℕ
quotas_from image p = sum_range (λ q. quota_from p q (account_at image q)) 0 64

-- whether what a process gave is its children's quotas together
abbrev pub gives_its_children : Image → ℕ → Process → Bool
gives_its_children image p r = r.given == quotas_from image p

-- whether what a process uses and gave is within its quota
abbrev pub keeps_its_quota : Process → Bool
keeps_its_quota r = nat_le (r.used + r.given) r.quota

-- the first clause that a live process fails
abbrev pub live_clause : Image → ℕ → Process → Option ProcessClause
live_clause image p r = first_failing (
    (has_parent image p r, of_process.Parent)
    ∷ (has_directory image p r, of_process.Directory)
    ∷ (links_tables image p r, of_process.Tables)
    ∷ (maps_pages image p, of_process.Pages)
    ∷ (uses_its_frames image p r, of_process.Used)
    ∷ (gives_its_children image p r, of_process.Given)
    ∷ (keeps_its_quota r, of_process.Quota)
    ∷ [])

-- of the processes that are not live, process 0 alone fails one
abbrev pub clause_of : Image → ℕ → Option Process → Option ProcessClause
clause_of image p None = if p == 0 then Some of_process.Parent else None
clause_of image p (Some r) = live_clause image p r

-- the first clause that process p fails
abbrev pub process_clause : Image → ℕ → Option ProcessClause
process_clause image p = clause_of image p (process_at image p)

-- ---- Frames

-- whether no table maps frame f
abbrev pub is_unmapped : Image → ℕ → Bool
is_unmapped image f = maps image f == 0

-- whether no directory names frame f
abbrev pub is_unnamed : Image → ℕ → Bool
is_unnamed image f = names image f == 0

-- the frame serves as its role says
abbrev pub serves : Image → ℕ → Role → Bool × FrameClause
serves image f Reserved = (false, of_frame.Reserved)
serves image f (Directory p) = (is_this f (directory_at (memory_of image) p) && is_unnamed image f && is_unmapped image f, of_frame.Directory)
serves image f (Table p s) = (is_this f (table_at (memory_of image) p s) && names image f == 1 && is_unmapped image f, of_frame.Table)
serves image f (Page count) = (nat_le 1 count && count == maps image f && is_unnamed image f, of_frame.Page)
serves image f Free = (is_unnamed image f && is_unmapped image f, of_frame.Free)

-- frame 0 is reserved, and holds zeros
abbrev pub is_blank_and_reserved : Image → Bool
is_blank_and_reserved image = is_reserved (role_at image 0) && list_all (λ b. b == 0) (frame_bytes image.bytes 0)

-- the clause that frame f fails, by its role
abbrev pub clause_by_role : Image → ℕ → Option Role → Option FrameClause
clause_by_role image f None = None
clause_by_role image f (Some role) = first_failing (serves image f role ∷ [])

-- the first clause that frame f fails
abbrev pub frame_clause : Image → ℕ → Option FrameClause
frame_clause image f = if f == 0 then first_failing ((is_blank_and_reserved image, of_frame.Reserved) ∷ []) else clause_by_role image f (role_at image f)

-- no process and no frame fails a clause
pub record NothingFails (image : Image) : Type 0 where
  pub processes : (p : ℕ) → p < 64 → process_clause image p ≡ None
  pub frames : (f : ℕ) → f < frames image → frame_clause image f ≡ None

-- an image is sound exactly where no clause fails
abbrev pub SoundWhereNothingFails : Type 0
SoundWhereNothingFails = (image : Image) → IsWideImage image → IsSound image ↔ NothingFails image
