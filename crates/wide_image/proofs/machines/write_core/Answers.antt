use Rattle.std.proofs.Common.{subst, sym, inr}
use Rattle.wide_image.specs.Offers.{AreListed}
use Rattle.wide_image.specs.Wide.{AreOffers}
use Rattle.wide_image.proofs.machines.write_core.Goals as goal

pub write_wide_image-requires : goal.write_wide_image-requires
write_wide_image-requires g c = record {
  image = c.within.ensures;
  today = c.of_core-image.ensures.shows.version;
  offers = subst AreOffers (sym c.as_slice.ensures.value) c.in-Ok.ensures.fields;
}

pub returns-in-Ok-write_wide_image-clause-ok : goal.returns-in-Ok-write_wide_image-clause-ok
returns-in-Ok-write_wide_image-clause-ok g c = (
  record { image = c.of_core-image.result; offers = c.as_slice.result.now },
  record {
    shows = record { image = c.of_core-image.ensures.shows; offers = subst (AreListed c.args.core.now.state.offers) (sym c.as_slice.ensures.value) c.in-Ok.ensures.listed };
    fields = record { image = c.within.ensures; today = c.of_core-image.ensures.shows.version; offers = subst AreOffers (sym c.as_slice.ensures.value) c.in-Ok.ensures.fields };
    stands = c.of_core-image.ensures.stands;
  },
  c.in-Ok-write_wide_image.ensures.ok,
)

pub returns-clause-err : goal.returns-clause-err
returns-clause-err g c = inr (
  record { image = c.of_core-image.result; offers = c.as_slice.result.now },
  record {
    shows = record { image = c.of_core-image.ensures.shows; offers = subst (AreListed c.args.core.now.state.offers) (sym c.as_slice.ensures.value) c.in-Ok.ensures.listed };
    fields = record { image = c.within.ensures; today = c.of_core-image.ensures.shows.version; offers = subst AreOffers (sym c.as_slice.ensures.value) c.in-Ok.ensures.fields };
    stands = c.of_core-image.ensures.stands;
  },
  c.in-Err.ensures.err,
)
