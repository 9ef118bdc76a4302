use Rattle.std.proofs.Common.{◌≡◌, ◌∙◌, Option, None, refl, sym, subst}
use Rattle.address_space.specs.Stays.{FramesStay, none_goes}
use Rattle.kernel_calls.specs.Translations.{Ends}
use Rattle.kernel_calls.specs.declared.calls.Event.{Event}
use Rattle.kernel_calls.proofs.Leaving.{nothing_ends}
use Rattle.process_table.specs.Image.{memory_of}
use Rattle.tower_c.specs.Border.{event_in, ends_in}
use Rattle.tower_c.proofs.step_ending.Goals as goal

-- where nothing is done, nothing is ended
pub returns-in-None-clause-ends : goal.returns-in-None-clause-ends
returns-in-None-clause-ends c =
    let v = c.args.core.now in
    let s = c.stands.ensures.core in
    let none : event_in c.args.event.now ≡ None = sym c.event_from.ensures ∙ c.in-None.is in
    let stays : FramesStay none_goes (memory_of v) (memory_of v) = record {
      directories = λ q d spared live. live;
      tables = λ q d f t stays way is. is;
      ways = λ q d f stays way. way;
    } in
    subst (λ (x : Option Event). Ends (ends_in v x) v v) (sym none) (nothing_ends v v s s refl stays)
