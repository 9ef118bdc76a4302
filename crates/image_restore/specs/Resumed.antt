-- A machine with its offers, made of a snapshot.
use Rattle.std.specs.Prelude.{◌≡◌, ◌≢◌, ℕ, Bool, true, false, List, length, map, take, Some, slice_get}
use Rattle.address_space.specs.Stays.{FramesStay, none_goes}
use Rattle.kernel_calls.specs.Machine.{answer, end_of}
use Rattle.kernel_calls.specs.declared.calls.Call.TheVariants as call
use Rattle.kernel_calls.specs.declared.calls.Event.{Event}
use Rattle.kernel_calls.specs.declared.calls.Reply.{Reply}
use Rattle.kernel_calls.specs.declared.calls.Reply.TheVariants as reply
use Rattle.page_words.specs.FiniteMap as finite_map
use Rattle.process_table.specs.Image as machine
use Rattle.process_table.specs.State.{State}
use Rattle.process_table.specs.View.{View}
use Rattle.memory_image.specs.Image.{Image, frames, memory_of, process_at}
use Rattle.memory_image.specs.Machine.{process_told}
use Rattle.memory_image.specs.Sound.{StandsFor}
use Rattle.image_restore.specs.Failing.{FailsFirst}
use Rattle.image_restore.specs.declared.wide_faults.WideRestoreFault.{WideRestoreFault}
use Rattle.image_restore.specs.declared.wide_faults.WideRestoreFault.TheVariants as fault
use Rattle.wide_image.specs.declared.offers.PendingOffer.{PendingOffer}
use Rattle.wide_image.specs.Offers.{AreListed}
use Rattle.process_table.specs.WellFormed.{IsWellFormed}
use Rattle.wide_image.specs.Stored.{IsWholeMachine}
use Rattle.wide_image.specs.Wide.{WideImage, text, Encodes}

-- the event that makes an offer
abbrev pub offer_event : PendingOffer → Event
offer_event o = record { cpu = 0; pid = o.offerer; call = call.Offer o.page o.target o.write }

-- whether a reply is Done
abbrev pub is_done : Reply → Bool
is_done reply.Done = true
is_done _ = false

-- the states differ at most in their offers
abbrev pub DifferInOffers : State → State → Type 0
DifferInOffers s t = t ≡ record s { offers = t.offers }

-- each image that represents the one state represents the other
abbrev pub KeepsWhatStands : State → State → Type 0
KeepsWhatStands s t = (image : Image) → StandsFor image s → StandsFor image t

-- the state once these offers are made
abbrev pub after_offers : State → List PendingOffer → State
after_offers s offers = end_of s (map offer_event offers)

-- the core has as many frames as the image, and all is where the image has it
pub record ShowsPlaces (core : View) (image : Image) : Type 0 where
  pub frames : length core.roles ≡ frames image
  -- each process has the account and the directory that the image says, and no other process is live
  pub processes : (p : ℕ) → process_at image p ≡ process_told core p
  -- from that directory, each page has the table and the frame that it has in the image
  pub pages : FramesStay none_goes (memory_of image) (machine.memory_of core)

-- the snapshot represents the core's state, whose offers are the snapshot's, and the core shows all where the snapshot
-- has it
pub record IsResumed (core : View) (w : WideImage) : Type 0 where
  pub stands : StandsFor w.image core.state
  pub offers : AreListed core.state.offers w.offers
  pub shows : ShowsPlaces core w.image

-- the machine refuses the offer of this number, with this reply, once those before it are made
pub record IsRefused (s : State) (offers : List PendingOffer) (number : ℕ) (r : Reply) : Type 0 where
  pub offer : PendingOffer
  pub here : slice_get offers number ≡ Some offer
  -- spaces and book stay, and the offers before it are made
  pub same : after_offers s (take number offers) ≡ record s { offers = (after_offers s (take number offers)).offers }
  pub before : AreListed (after_offers s (take number offers)).offers (take number offers)
  pub answered : answer (after_offers s (take number offers)) (offer_event offer) ≡ r
  pub refused : r ≢ reply.Done

-- of a sound snapshot, the first offer that the machine refuses, which has none at first
abbrev pub RefusesOffer : WideImage → ℕ → Reply → Type 0
RefusesOffer w number r = (s : State) × StandsFor w.image s × (s.offers ≡ finite_map.empty) × IsRefused s w.offers number r

-- what a fault says of a snapshot
abbrev pub NamesFault : WideImage → WideRestoreFault → Type 0
NamesFault w (fault.NotSound named) = FailsFirst w.image named
NamesFault w (fault.BadOffer number r) = RefusesOffer w number r
NamesFault w fault.NoMemory = Unit {0}

-- the snapshot is sound, and its offers are those of a well-formed state that it represents
pub record IsSoundWide (w : WideImage) : Type 0 where
  pub state : State
  pub stands : StandsFor w.image state
  pub well_formed : IsWellFormed state
  pub offers : AreListed state.offers w.offers

-- the snapshot that is read of a machine's text is sound, and a core of it is in the machine's state, with its offers
abbrev pub StoredMachinesResume : Type 0
StoredMachinesResume = (v : View) (w read : WideImage) → IsWholeMachine v w → IsWellFormed v.state → Encodes (text w) read
    → IsSoundWide read × ((core : View) → StandsFor read.image core.state → AreListed core.state.offers read.offers → core.state ≡ v.state)
