-- The image of a machine represents the machine's state.
use Rattle.std.proofs.Common.{◌≡◌, ℕ, ◌<◌, ◌≤◌, ◌*◌, ◌&&◌, inl, inr, List, refl, sym, ap, subst, ◌∙◌, Option, Some, None, is_some, length, arith}
use Rattle.std.proofs.lemmas.Bool.{cases_lt, and_parts}
use Rattle.std.proofs.lemmas.Option.{slice_get_within, slice_get_past}
use Rattle.std.specs.Prelude.{slice_get, slice_index, IfSome}
use Rattle.std.specs.Option.{option_map, unwrap_or}
use Rattle.page_words.specs.Words.{is_present, frame_number}
use Rattle.page_words.specs.FiniteMap as map
use Rattle.alloc_table.specs.declared.Role.{Role}
use Rattle.alloc_table.specs.declared.Role.TheVariants.{Reserved, Free, Directory, Table, Page}
use Rattle.address_space.specs.View.{directory_of}
use Rattle.address_space.specs.Image.{directory_at, word_of, is_user_slot, named_by}
use Rattle.quota_tree.specs.declared.Container.{Container}
use Rattle.quota_tree.specs.Book.{Member}
use Rattle.process_table.specs.State.{State, as_container, container_of}
use Rattle.process_table.specs.View.{View}
use Rattle.process_table.specs.WellFormed.{IsWellFormed}
use Rattle.process_table.specs.Image as machine
use Rattle.process_table.specs.Image.{as_account}
use Rattle.memory_image.specs.declared.processes.Process.{Process}
use Rattle.memory_image.specs.Image.{Image, process_at, directory_from, memory_of, IsProcess, IsRole, HasFields, IsImage, IsWideImage}
use Rattle.memory_image.specs.Sound.{account_from, account_at, shown_by, StandsFor}
use Rattle.memory_image.specs.Machine.{process_from, process_told, IsImageOf, IsWide, IsToldWide, HaveWords, ImagesStand}
use Rattle.memory_image.proofs.References.{same_some, from_map, then_some, chosen_some, user_range, directory-of, live-of, pid-small}

-- ---- What the image of a machine shows

module _ (s : State) (p : ℕ) where
  directory-kept : (x : Option Member) (d : Option ℕ) → is_some (option_map (as_account s p) x) ≡ is_some d → directory_from (process_from (option_map (λ m. as_container s p m) x) d) ≡ d
  directory-kept None None h = refl
  directory-kept None (Some d) h = cc
  directory-kept (Some m) None h = cc
  directory-kept (Some m) (Some d) h = refl

  account-kept : (x : Option Member) (d : Option ℕ) → is_some (option_map (as_account s p) x) ≡ is_some d
      → option_map account_from (process_from (option_map (λ m. as_container s p m) x) d) ≡ option_map (as_account s p) x
  account-kept None d h = refl
  account-kept (Some m) None h = cc
  account-kept (Some m) (Some d) h = refl

-- the image shows what the machine shows
same-shown : (v : View) (image : Image) → IsImageOf v image → ((p : ℕ) → is_some (machine.account_of v.state p) ≡ is_some (directory_of v.directories p)) → machine.image_of v ≡ shown_by image
same-shown v image of live =
    let directory : (p : ℕ) → directory_at (memory_of image) p ≡ directory_of v.directories p = λ p. ap directory_from (of.processes p) ∙ directory-kept v.state p (map.get v.state.book p) (directory_of v.directories p) (live p) in
    let account : (p : ℕ) → account_at image p ≡ machine.account_of v.state p = λ p. ap (option_map account_from) (of.processes p) ∙ account-kept v.state p (map.get v.state.book p) (directory_of v.directories p) (live p) in
    sym (λ i. record {
      memory = record { version = of.version i; directories = λ p. directory p i; bytes = of.bytes i; roles = of.roles i };
      accounts = λ p. account p i;
    })

pub images_stand : ImagesStand
images_stand v image of S = subst (λ (shown : machine.Image). machine.StandsFor shown v.state) (same-shown v image of S.sound.live) S

-- ---- The fields of the image of a machine

module _ (v : View) (W : IsWellFormed v.state) where
  member-there : (p : ℕ) (c : Container) → container_of v.state p ≡ Some c → (m : Member) × (map.get v.state.book p ≡ Some m) × (as_container v.state p m ≡ c)
  member-there p c h = from_map (λ m. as_container v.state p m) (map.get v.state.book p) c h

  told-past : (p : ℕ) → 64 ≤ p → process_told v p ≡ None
  told-past p past = by (container_of v.state p) refl
    where
      by : (x : Option Container) → container_of v.state p ≡ x → process_from x (directory_of v.directories p) ≡ None
      by None e = refl
      by (Some c) e = absurd (let m = member-there p c e in let k = (W.processes p m.0 m.1).0 in omega arith)

  pub told_all : (ps : List (Option Process)) → length ps ≡ 64 → ((p : ℕ) → p < 64 → slice_get ps p ≡ Some (process_told v p)) → (p : ℕ) → unwrap_or (slice_get ps p) None ≡ process_told v p
  told_all ps long each p = elim (cases_lt p 64) [
    | inl low ↦ ap (λ o. unwrap_or o None) (each p low)
    | inr past ↦ ap (λ o. unwrap_or o None) (slice_get_past ps p (omega arith)) ∙ sym (told-past p past)
  ]

  wide_of : (x : Option Process) (r : Process) → x ≡ Some r → IfSome x IsWide → IsWide r
  wide_of None r h k = cc
  wide_of (Some y) r h k = subst IsWide (same_some y r h) k

  told_parent : (p : ℕ) (r : Process) → p ≡ 0 → process_told v p ≡ Some r → r.parent ≡ 0
  told_parent p r root h = by (map.get v.state.book p) (directory_of v.directories p) (ap (map.get v.state.book) (sym root)) h
    where
      by : (x : Option Member) (d : Option ℕ) → map.get v.state.book 0 ≡ x → process_from (option_map (λ m. as_container v.state p m) x) d ≡ Some r → r.parent ≡ 0
      by None d is h = cc
      by (Some m) None is h = cc
      by (Some m) (Some d) is h = ap (λ o. unwrap_or (option_map (λ (r : Process). r.parent) o) 0) (sym h) ∙ W.root_parent m is

  pub machine_fits : (limit : ℕ) (ps : List (Option Process)) (n : ℕ) → length ps ≡ 64 → ((p : ℕ) → p < 64 → slice_get ps p ≡ Some (process_told v p)) → ((p : ℕ) → p < 64 → IsToldWide v p)
      → HaveWords v.roles (length v.roles) → length v.bytes ≡ 4096 * n → length v.roles ≡ n → 16 ≤ n → n ≤ limit → ((i : ℕ) → slice_index v.bytes i < 256)
      → machine.StandsFor (machine.image_of v) v.state → HasFields limit (record { version = 2; processes = ps; roles = v.roles; bytes = v.bytes })
  machine_fits limit ps n long each wide words size few low high small S =
      let all = told_all ps long each in
      let stands = images_stand v shows (record { version = refl; roles = refl; bytes = refl; processes = all }) S in
      record {
        version = inr refl;
        most = omega (arith, few, high);
        fewest = omega (arith, few, low);
        pids = long;
        processes = process-fits all stands;
        roles = role-fits stands;
        size = size ∙ ap (λ k. 4096 * k) (sym few);
        small = small;
      }
    where
      shows : Image
      shows = record { version = 2; processes = ps; roles = v.roles; bytes = v.bytes }

      process-fits : ((p : ℕ) → unwrap_or (slice_get ps p) None ≡ process_told v p) → StandsFor shows v.state → (p : ℕ) (r : Process) → process_at shows p ≡ Some r → IsProcess (length v.roles) p r
      process-fits all stands p r h =
          let k = wide_of (process_told v p) r (sym (all p) ∙ h) (wide p (pid-small shows long p r h)) in
          record {
            parent = k.parent;
            root = λ e. told_parent p r e (sym (all p) ∙ h);
            quota = k.quota;
            used = k.used;
            given = k.given;
            directory = slice_get_within v.roles r.directory (Directory p) ((stands.sound.memory.directories r.directory p).1 (directory-of shows p r h));
          }

      role-fits : StandsFor shows v.state → (f : ℕ) (role : Role) → slice_get v.roles f ≡ Some role → IsRole role
      role-fits stands f Reserved h = tt
      role-fits stands f Free h = tt
      role-fits stands f (Directory p) h = let r = live-of shows p f ((stands.sound.memory.directories f p).0 h) in pid-small shows long p r.0 r.1
      role-fits stands f (Table p s) h =
          let t = then_some (λ d. named_by s (word_of (memory_of shows) d s)) (directory_at (memory_of shows) p) f ((stands.sound.memory.tables f p s).0 h) in
          let r = live-of shows p t.0 t.1 in
          let u = chosen_some (is_user_slot s && is_present (word_of (memory_of shows) t.0 s)) (frame_number (word_of (memory_of shows) t.0 s)) f t.2 in
          let b = user_range s (and_parts (is_user_slot s) (is_present (word_of (memory_of shows) t.0 s)) u.0).0 in
          let high = b.1 in
          (pid-small shows long p r.0 r.1, omega arith)
      role-fits stands f (Page c) h = words f (Page c) (slice_get_within v.roles f (Page c) h) h c refl

-- an image of few enough frames is one that bytes can encode
pub narrowed : (image : Image) → IsWideImage image → length image.roles ≤ 4096 → IsImage image
narrowed image I few = record {
  version = I.version;
  most = few;
  fewest = I.fewest;
  pids = I.pids;
  processes = I.processes;
  roles = I.roles;
  size = I.size;
  small = I.small;
}

-- an image that bytes of version 1 or 2 encode has no more frames than a wide core
pub widened : (image : Image) → IsImage image → IsWideImage image
widened image I = record {
  version = I.version;
  most = (let m = I.most in omega arith);
  fewest = I.fewest;
  pids = I.pids;
  processes = I.processes;
  roles = I.roles;
  size = I.size;
  small = I.small;
}
