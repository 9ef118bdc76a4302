use Rattle.std.proofs.Common.{refl, subst, sym, inr}
use Rattle.wide_image.specs.Offers.{AreListed}
use Rattle.wide_image.specs.Wide.{AreOffers, head_text}
use Rattle.wide_image.proofs.machines.write_core_head.Goals as goal

pub returns-in-Ok-write_wide_head-clause-ok : goal.returns-in-Ok-write_wide_head-clause-ok
returns-in-Ok-write_wide_head-clause-ok g c = (
  head_text (record { image = c.of_core-image.result; offers = c.as_slice.result.now }),
  record {
    image = record { image = c.of_core-image.result; offers = c.as_slice.result.now };
    machine = record {
      shows = record { image = c.of_core-image.ensures.shows; offers = subst (AreListed c.args.core.now.state.offers) (sym c.as_slice.ensures.value) c.in-Ok.ensures.listed };
      fields = record { image = c.within.ensures; today = c.of_core-image.ensures.shows.version; offers = subst AreOffers (sym c.as_slice.ensures.value) c.in-Ok.ensures.fields };
      stands = c.of_core-image.ensures.stands;
    };
    is = refl;
  },
  c.in-Ok-write_wide_head.ensures.ok,
)

pub returns-clause-err : goal.returns-clause-err
returns-clause-err g c = inr (
  head_text (record { image = c.of_core-image.result; offers = c.as_slice.result.now }),
  record {
    image = record { image = c.of_core-image.result; offers = c.as_slice.result.now };
    machine = record {
      shows = record { image = c.of_core-image.ensures.shows; offers = subst (AreListed c.args.core.now.state.offers) (sym c.as_slice.ensures.value) c.in-Ok.ensures.listed };
      fields = record { image = c.within.ensures; today = c.of_core-image.ensures.shows.version; offers = subst AreOffers (sym c.as_slice.ensures.value) c.in-Ok.ensures.fields };
      stands = c.of_core-image.ensures.stands;
    };
    is = refl;
  },
  c.in-Err.ensures.err,
)
