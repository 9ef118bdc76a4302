-- A core of an image shows all where the image has it, and its offers move nothing.
use Rattle.std.proofs.Common.{◌≡◌, ℕ, Bool, true, false, refl, sym, ap, subst, ◌∙◌, arith, Option, Some, None, is_some, length}
use Rattle.std.specs.Prelude.{if◌then◌else◌}
use Rattle.std.specs.Option.{option_map, unwrap_or}
use Rattle.address_space.specs.Image as memory
use Rattle.address_space.specs.Image.{directory_at}
use Rattle.address_space.specs.Spaces.{Slot, at_page}
use Rattle.address_space.specs.Stays.{FramesStay, none_goes}
use Rattle.address_space.specs.View.{directory_of}
use Rattle.page_words.specs.FiniteMap as map
use Rattle.kernel_calls.specs.Gone.{gone_by}
use Rattle.kernel_calls.specs.Machine.{answer, completes}
use Rattle.process_table.proofs.Prelude.{Member}
use Rattle.process_table.specs.Image as machine
use Rattle.process_table.specs.Image.{Account}
use Rattle.process_table.specs.State.{State, as_container, container_of}
use Rattle.process_table.specs.View.{View}
use Rattle.memory_image.specs.Image.{Image, directory_from, memory_of}
use Rattle.memory_image.specs.Machine.{IsImageOf, process_from}
use Rattle.wide_image.specs.declared.offers.PendingOffer.{PendingOffer}
use Rattle.image_restore.specs.Resumed.{DifferInOffers, ShowsPlaces, offer_event}

-- an offer takes no page's way
pub offer_stays : (s : State) (o : PendingOffer) (old new : memory.Image) → FramesStay (gone_by s (offer_event o)) old new → FramesStay none_goes old new
offer_stays s o old new stay = record {
  directories = λ p directory spares here. stay.directories p directory (record { page = 0; frame = 0; stays = goes_not (at_page p 0) 0 }) here;
  tables = λ slot directory frame table goes way here. stay.tables slot directory frame table (goes_not slot frame) way here;
  ways = λ slot directory frame goes way. stay.ways slot directory frame (goes_not slot frame) way;
}
  where
    by : (b : Bool) → (if b then false else false) ≡ false
    by true = refl
    by false = refl

    goes_not : (slot : Slot) (frame : ℕ) → gone_by s (offer_event o) slot frame ≡ false
    goes_not slot frame = by (completes (answer s (offer_event o)))

module _ (s : State) (p : ℕ) where
  -- a live process has a directory, and no other has one
  kept : (x : Option Member) (d : Option ℕ) → is_some (option_map (machine.as_account s p) x) ≡ is_some d → directory_from (process_from (option_map (λ m. as_container s p m) x) d) ≡ d
  kept None None h = refl
  kept None (Some d) h = cc
  kept (Some m) None h = cc
  kept (Some m) (Some d) h = refl

  -- a process with the same account keeps its directory
  told_same : (x : Option Member) (d e : Option ℕ) → is_some (option_map (machine.as_account s p) x) ≡ is_some d → ((k : ℕ) → d ≡ Some k → e ≡ Some k)
      → process_from (option_map (λ m. as_container s p m) x) d ≡ process_from (option_map (λ m. as_container s p m) x) e
  told_same None d e live stay = refl
  told_same (Some m) None e live stay = cc
  told_same (Some m) (Some k) e live stay = ap (process_from (Some (as_container s p m))) (sym (stay k refl))

-- the image shows the memory of its machine
memory_same : (v : View) (image : Image) → IsImageOf v image → machine.StandsFor (machine.image_of v) v.state → memory_of image ≡ machine.memory_of v
memory_same v image of stands =
    let directory : (p : ℕ) → directory_at (memory_of image) p ≡ directory_of v.directories p = λ p. ap directory_from (of.processes p) ∙ kept v.state p (map.get v.state.book p) (directory_of v.directories p) (stands.sound.live p) in
    λ i. record { version = of.version i; directories = λ p. directory p i; bytes = of.bytes i; roles = of.roles i }

-- as many frames as the quota of process 0 says
same_frames : (v w : View) → machine.StandsFor (machine.image_of v) v.state → machine.StandsFor (machine.image_of w) w.state
    → machine.account_of v.state 0 ≡ machine.account_of w.state 0 → length w.roles ≡ length v.roles
same_frames v w stands also same =
    let one = stands.sound.root in
    let two = also.sound.root in
    let path : Some one.0 ≡ Some two.0 = sym one.1 ∙ same ∙ two.1 in
    let quota = ap (λ (x : Option Account). (unwrap_or x one.0).quota) path in
    omega (arith, quota, one.2, two.2)

-- the core that an image's core becomes, if it gets offers and nothing else
pub shows_places : (v w : View) (image : Image) → IsImageOf v image → machine.StandsFor (machine.image_of v) v.state → machine.StandsFor (machine.image_of w) w.state
    → DifferInOffers v.state w.state → FramesStay none_goes (machine.memory_of v) (machine.memory_of w) → ShowsPlaces w image
shows_places v w image of stands also same stay = record {
  frames = same_frames v w stands also (sym (ap (λ (s : State). machine.account_of s 0) same)) ∙ sym (ap length of.roles);
  processes = λ p.
      of.processes p
      ∙ told_same v.state p (map.get v.state.book p) (directory_of v.directories p) (directory_of w.directories p) (stands.sound.live p)
      (λ k here. stay.directories p k (record { page = 0; frame = 0; stays = refl }) here)
      ∙ ap (λ (s : State). process_from (container_of s p) (directory_of w.directories p)) (sym same);
  pages = subst (λ (m : memory.Image). FramesStay none_goes m (machine.memory_of w)) (sym (memory_same v image of stands)) stay;
}
