-- The core that is made of an image.
use Rattle.std.proofs.Common.{◌≡◌, ℕ, ◌<◌, List, length, refl, sym, ap, subst, ◌∙◌, arith, inl, inr, Option, Some, None}
use Rattle.std.specs.Prelude.{slice_get, slice_index_or}
use Rattle.std.specs.Option.{option_map, unwrap_or}
use Rattle.std.proofs.lemmas.Bool.{cases_lt}
use Rattle.std.proofs.lemmas.List.{get_or_past}
use Rattle.std.proofs.lemmas.Option.{slice_get_past, slice_get-get_or}
use Rattle.page_words.specs.FiniteMap as map
use Rattle.address_space.specs.View.{directory_of}
use Rattle.quota_tree.specs.declared.accounts.Account as quota_tree
use Rattle.quota_tree.specs.Accounts.{account_at as account_in}
use Rattle.quota_tree.specs.Book.{Member}
use Rattle.process_table.specs.State.{State, as_container, container_of}
use Rattle.process_table.specs.View.{View}
use Rattle.process_table.specs.Image as machine
use Rattle.process_table.specs.Image.{as_account, account_of}
use Rattle.process_table.specs.Restored.{account_told, image_in}
use Rattle.memory_image.specs.declared.processes.Process.{Process}
use Rattle.memory_image.specs.Image.{Image, process_at, directory_from, HasFields}
use Rattle.memory_image.specs.Machine.{process_from, IsImageOf}
use Rattle.memory_image.specs.Restored.{account_from}
use Rattle.memory_image.specs.Sound as sound
use Rattle.memory_image.specs.Sound.{account_at, shown_by, IsSound, StandsFor}

-- a list of 64 that was filled from the records
filled_at : {X : Type 0} (g : Option Process → Option X) (processes : List (Option Process)) (xs : List (Option X)) → g None ≡ None → length processes ≡ 64 → length xs ≡ 64
    → ((p : ℕ) → p < 64 → slice_get xs p ≡ Some (g (slice_index_or processes p None))) → (p : ℕ) → unwrap_or (slice_get xs p) None ≡ g (unwrap_or (slice_get processes p) None)
filled_at g processes xs none long places each p = elim (cases_lt p 64) [
  | inl low ↦ ap (λ o. unwrap_or o None) (each p low) ∙ ap g (sym (ap (λ o. unwrap_or o None) (slice_get-get_or processes p None (omega (arith, low, long)))))
  | inr past ↦ ap (λ o. unwrap_or o None) (slice_get_past xs p (omega (arith, past, places))) ∙ sym none ∙ ap g (sym (ap (λ o. unwrap_or o None) (slice_get_past processes p (omega (arith, past, long)))))
]

index_is : {X : Type 0} (xs : List (Option X)) (p : ℕ) → length xs ≡ 64 → slice_index_or xs p None ≡ unwrap_or (slice_get xs p) None
index_is xs p long = elim (cases_lt p 64) [
  | inl low ↦ sym (ap (λ o. unwrap_or o None) (slice_get-get_or xs p None (omega (arith, low, long))))
  | inr past ↦ get_or_past xs p None (omega (arith, past, long)) ∙ sym (ap (λ o. unwrap_or o None) (slice_get_past xs p (omega (arith, past, long))))
]

module _ (limit : ℕ) (image : Image) (fits : HasFields limit image) (today : image.version ≡ 2) (directories : List (Option ℕ)) (accounts : List (Option quota_tree.Account))
    (directories_long : length directories ≡ 64) (accounts_long : length accounts ≡ 64)
    (each_directory : (p : ℕ) → p < 64 → slice_get directories p ≡ Some (directory_from (slice_index_or image.processes p None)))
    (each_account : (p : ℕ) → p < 64 → slice_get accounts p ≡ Some (account_from (slice_index_or image.processes p None))) where
  directory-is : (p : ℕ) → directory_of directories p ≡ directory_from (process_at image p)
  directory-is p = filled_at directory_from image.processes directories refl fits.pids directories_long each_directory p

  account-is : (p : ℕ) → account_in accounts p ≡ account_from (process_at image p)
  account-is p = index_is accounts p accounts_long ∙ filled_at account_from image.processes accounts refl fits.pids accounts_long each_account p

  told-is : (x : Option Process) → option_map account_told (account_from x) ≡ option_map sound.account_from x
  told-is None = refl
  told-is (Some r) = refl

  -- what the core is made of is what the image shows
  pub same-image : image_in directories accounts image.bytes image.roles ≡ shown_by image
  same-image = λ i. record {
    memory = record { version = sym today i; directories = λ p. directory-is p i; bytes = image.bytes; roles = image.roles };
    accounts = λ p. (ap (option_map account_told) (account-is p) ∙ told-is (process_at image p)) i;
  }

  pub made_sound : IsSound image → machine.IsSoundImage (image_in directories accounts image.bytes image.roles)
  made_sound s = subst machine.IsSoundImage (sym same-image) s

  pub made_stands : (s : State) → machine.StandsFor (image_in directories accounts image.bytes image.roles) s → StandsFor image s
  made_stands s stands = subst (λ (shown : machine.Image). machine.StandsFor shown s) same-image stands

  -- the core shows what the image shows
  pub made_shows : (v : View) → v.directories ≡ directories → v.bytes ≡ image.bytes → v.roles ≡ image.roles → machine.StandsFor (image_in directories accounts image.bytes image.roles) v.state → IsImageOf v image
  made_shows v ds bs rs stands = record {
    version = today;
    roles = sym rs;
    bytes = sym bs;
    processes = λ p. process p (process_at image p) refl (sym (ap (λ d. directory_of d p) ds ∙ directory-is p)) (sym (ap (λ (shown : machine.Image). shown.accounts p) same-image) ∙ stands.accounts p);
  }
    where
      process : (p : ℕ) (x : Option Process) → process_at image p ≡ x → directory_from (process_at image p) ≡ directory_of v.directories p → account_at image p ≡ account_of v.state p
          → process_at image p ≡ process_from (container_of v.state p) (directory_of v.directories p)
      process p x at d a = at ∙ by x (directory_of v.directories p) (map.get v.state.book p) (sym (ap directory_from at) ∙ d) (sym (ap (option_map sound.account_from) at) ∙ a)
        where
          by : (x : Option Process) (d : Option ℕ) (m : Option Member) → directory_from x ≡ d → option_map sound.account_from x ≡ option_map (as_account v.state p) m
              → x ≡ process_from (option_map (λ m. as_container v.state p m) m) d
          by None d None e f = refl
          by None d (Some m) e f = cc
          by (Some r) None m e f = cc
          by (Some r) (Some d) None e f = cc
          by (Some r) (Some d) (Some m) e f =
              let c = ap (λ o. unwrap_or o (sound.account_from r)) f in
              let k : r.directory ≡ d = ap (λ o. unwrap_or o d) e in
              λ i. Some (record { parent = (c i).parent; quota = (c i).quota; used = (c i).used; given = (c i).given; directory = k i })
