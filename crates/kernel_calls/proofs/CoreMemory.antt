-- A core's memory is address spaces with room, so each of its walks ends as the state says.
use Rattle.kernel_calls.proofs.Prelude.{◌≡◌, ℕ, ◌+◌, ◌<◌, true, length, sym, ap, subst, ◌∙◌, arith, is_some, unwrap_or, option_map, is_some-map, some_value, WaysAgree, WalksAgree, Member, quota_of, is_live, as_account, View, memory_of, total-within, IsCore, CoresAreWalked, IsSpaces, from_map, stands, stands_for_one, total, HasRoom, directory_of, spaces_in, total_cost, walks_agree, ways_agree, total-book}
use Rattle.address_space.proofs.standing.Restored.{kept}
use Rattle.page_words.specs.FiniteMap as map

module _ (v : View) (core : IsCore v) where
  pub live_is : (p : ℕ) → is_some (directory_of v.directories p) ≡ is_live v.state p
  live_is p = sym (core.image.sound.live p) ∙ is_some-map (as_account v.state p) (map.get v.state.book p)

  pub root_quota : 1 + quota_of v.state.book 0 ≡ length v.roles
  root_quota =
      let root = core.image.sound.root in
      let m = from_map (as_account v.state 0) (map.get v.state.book 0) root.0 root.1 in
      let same : quota_of v.state.book 0 ≡ root.0.quota =
      ap (λ o. unwrap_or (option_map (λ (m : Member). m.quota) o) 0) m.1 ∙ ap (λ a. a.quota) m.2 in
      ap (λ n. 1 + n) same ∙ root.2

  some_frames : 0 < length v.roles
  some_frames = let q = root_quota in omega (arith, q)

  small : (p : ℕ) → is_live v.state p ≡ true → p < 64
  small p there = let m = some_value (map.get v.state.book p) there in (core.well_formed.processes p m.0 m.1).0

  pub spaces_is : spaces_in v.directories v.bytes ≡ v.state.spaces
  spaces_is = stands_for_one (memory_of v) _ _ (stands v.directories v.bytes v.roles core.sized.pids some_frames core.sized.few core.image.sound.memory) core.image.memory

  room : HasRoom v.directories v.bytes v.roles
  room =
      let costs : total_cost v.directories (spaces_in v.directories v.bytes) ≡ total v.state =
      ap (total_cost v.directories) spaces_is ∙ total-book v.directories v.state live_is small in
      let within = total-within v.state core.well_formed in
      let quota = root_quota in
      omega (arith, costs, within, quota)

  pub spaces : IsSpaces v.directories v.bytes v.roles
  spaces = kept v.directories v.bytes v.roles core.sized.pids some_frames core.sized.few core.image.sound.memory room

pub walks_of : {v : View} → IsCore v → WalksAgree (memory_of v) v.state.spaces
walks_of {v} core = subst (WalksAgree (memory_of v)) (spaces_is v core) (walks_agree v.directories v.bytes v.roles (spaces v core))

pub ways_of : {v : View} → IsCore v → WaysAgree (memory_of v)
ways_of {v} core = ways_agree v.directories v.bytes v.roles (spaces v core).sound

pub cores_are_walked : CoresAreWalked
cores_are_walked v core = (walks_of core, ways_of core)
