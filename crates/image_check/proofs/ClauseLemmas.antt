-- What it says that no clause fails, clause by clause.
use Rattle.std.proofs.Common.{◌≡◌, ℕ, zero, suc, Bool, true, false, List, [], ◌∷◌, length, replicate, refl, ap, ◌∙◌, Option, Some, None, sum_by}
use Rattle.std.specs.Prelude.{if◌then◌else◌, ◌==◌}
use Rattle.std.specs.List.{range_with_len, list_all}
use Rattle.std.proofs.lemmas.Bool.{and_parts, and_from, eqb-true, eq-eqb}
use Rattle.alloc_table.specs.declared.Role.{Role}
use Rattle.alloc_table.specs.declared.Role.TheVariants.{Reserved, Free, Directory, Table, Page}
use Rattle.image_check.specs.declared.clauses.ProcessClause.TheVariants as of_process
use Rattle.memory_image.specs.declared.processes.Process.{Process}
use Rattle.memory_image.specs.Image.{Image}
use Rattle.image_check.specs.Verdict.{is_directory_of, is_table_of, is_page, is_reserved, has_parent, has_directory, links_tables, maps_pages, uses_its_frames, gives_its_children, keeps_its_quota, quotas_from, live_clause}
use Rattle.memory_image.specs.Sound.{account_at}
use Rattle.process_table.specs.Image.{quota_from}
use Rattle.image_check.proofs.CountLemmas.{sum-listed}

-- ---- The first that fails

pub passes_first : {C : Type 0} (b : Bool) (c : C) (x : Option C) → (if b then x else Some c) ≡ None → (b ≡ true) × (x ≡ None)
passes_first true c x h = (refl, h)
passes_first false c x h = cc

pub first_passes : {C : Type 0} (b : Bool) (c : C) (x : Option C) → b ≡ true → x ≡ None → (if b then x else Some c) ≡ None
first_passes true c x b h = h
first_passes false c x b h = cc

pub record Passes (image : Image) (p : ℕ) (r : Process) : Type 0 where
  pub parent : has_parent image p r ≡ true
  pub directory : has_directory image p r ≡ true
  pub tables : links_tables image p r ≡ true
  pub pages : maps_pages image p ≡ true
  pub used : uses_its_frames image p r ≡ true
  pub given : gives_its_children image p r ≡ true
  pub quota : keeps_its_quota r ≡ true

module _ (image : Image) (p : ℕ) (r : Process) where
  pub all_pass : live_clause image p r ≡ None → Passes image p r
  all_pass h =
      let a = passes_first (has_parent image p r) of_process.Parent _ h in
      let b = passes_first (has_directory image p r) of_process.Directory _ a.1 in
      let c = passes_first (links_tables image p r) of_process.Tables _ b.1 in
      let d = passes_first (maps_pages image p) of_process.Pages _ c.1 in
      let e = passes_first (uses_its_frames image p r) of_process.Used _ d.1 in
      let f = passes_first (gives_its_children image p r) of_process.Given _ e.1 in
      let g = passes_first (keeps_its_quota r) of_process.Quota _ f.1 in
      record { parent = a.0; directory = b.0; tables = c.0; pages = d.0; used = e.0; given = f.0; quota = g.0 }

  pub pass_all : Passes image p r → live_clause image p r ≡ None
  pass_all h =
      first_passes (has_parent image p r) of_process.Parent _ h.parent
      (first_passes (has_directory image p r) of_process.Directory _ h.directory
      (first_passes (links_tables image p r) of_process.Tables _ h.tables
      (first_passes (maps_pages image p) of_process.Pages _ h.pages
      (first_passes (uses_its_frames image p r) of_process.Used _ h.used
      (first_passes (gives_its_children image p r) of_process.Given _ h.given
      (first_passes (keeps_its_quota r) of_process.Quota _ h.quota refl))))))

-- ---- Roles

pub directory_role : (p : ℕ) (x : Option Role) → is_directory_of p x ≡ true → x ≡ Some (Directory p)
directory_role p None h = cc
directory_role p (Some Reserved) h = cc
directory_role p (Some Free) h = cc
directory_role p (Some (Directory q)) h = ap (λ k. Some (Directory k)) (eqb-true q p h)
directory_role p (Some (Table q s)) h = cc
directory_role p (Some (Page c)) h = cc

pub role_directory : (p : ℕ) (x : Option Role) → x ≡ Some (Directory p) → is_directory_of p x ≡ true
role_directory p x h = ap (is_directory_of p) h ∙ eq-eqb p p refl

pub table_role : (p s : ℕ) (x : Option Role) → is_table_of p s x ≡ true → x ≡ Some (Table p s)
table_role p s None h = cc
table_role p s (Some Reserved) h = cc
table_role p s (Some Free) h = cc
table_role p s (Some (Directory q)) h = cc
table_role p s (Some (Table q r)) h =
    let a = and_parts (q == p) (r == s) h in
    let b = eqb-true q p a.0 in
    let c = eqb-true r s a.1 in
    λ i. Some (Table (b i) (c i))
table_role p s (Some (Page c)) h = cc

pub role_table : (p s : ℕ) (x : Option Role) → x ≡ Some (Table p s) → is_table_of p s x ≡ true
role_table p s x h = ap (is_table_of p s) h ∙ and_from (p == p) (s == s) (eq-eqb p p refl) (eq-eqb s s refl)

pub page_role : (x : Option Role) → is_page x ≡ true → (c : ℕ) × (x ≡ Some (Page c))
page_role None h = cc
page_role (Some Reserved) h = cc
page_role (Some Free) h = cc
page_role (Some (Directory q)) h = cc
page_role (Some (Table q r)) h = cc
page_role (Some (Page c)) h = (c, refl)

pub reserved_role : (x : Option Role) → is_reserved x ≡ true → x ≡ Some Reserved
reserved_role None h = cc
reserved_role (Some Reserved) h = refl
reserved_role (Some Free) h = cc
reserved_role (Some (Directory q)) h = cc
reserved_role (Some (Table q r)) h = cc
reserved_role (Some (Page c)) h = cc

-- ---- Zeros

pub zeros_from : (xs : List ℕ) → list_all (λ b. b == 0) xs ≡ true → xs ≡ replicate (length xs) 0
zeros_from [] h = refl
zeros_from (x ∷ xs) h =
    let a = and_parts (x == 0) (list_all (λ b. b == 0) xs) h in
    λ i. eqb-true x 0 a.0 i ∷ zeros_from xs a.1 i

pub all_zeros : (n : ℕ) → list_all (λ b. b == 0) (replicate n 0) ≡ true
all_zeros zero = refl
all_zeros (suc n) = all_zeros n

-- ---- Quotas

pub quotas_listed : (image : Image) (p : ℕ) → quotas_from image p ≡ sum_by (λ q. quota_from p q (account_at image q)) (range_with_len 0 64)
unfolding quotas_from
quotas_listed image p = sum-listed (λ q. quota_from p q (account_at image q)) 0 64
