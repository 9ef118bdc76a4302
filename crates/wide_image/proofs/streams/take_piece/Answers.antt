use Rattle.std.proofs.Common.{rules, inl, inr}
use Rattle.wide_image.proofs.Naming.{piece_named, short_named}
use Rattle.wide_image.proofs.Refusing.{piece_refused, short_refused}
use Rattle.wide_image.proofs.streams.take_piece.Goals as goal

pub returns-in-Err-clause-refused : goal.returns-in-Err-clause-refused
returns-in-Err-clause-refused g c =
    short_refused c.args.image.now c.within.ensures _ _ c.in-Err.fault (search (rules, c.wants-wanted.ensures.wanted)) c.in-Err.ensures.short

pub returns-in-Err-take-clause-refused : goal.returns-in-Err-take-clause-refused
returns-in-Err-take-clause-refused g c =
    elim c.in-Err-take.ensures.fault [
      | inl is ↦ inr (piece_refused c.args.image.now c.within.ensures _ _ c.fill_whole.new.piece c.in-Err-take.fault c.in_default.ensures.bytes c.requires (search rules) is)
      | inr none ↦ inl none
    ]

pub returns-in-Err-clause-named : goal.returns-in-Err-clause-named
returns-in-Err-clause-named g c =
    short_named c.args.image.now c.within.ensures _ _ c.in-Err.fault (search (rules, c.wants-wanted.ensures.wanted)) c.in-Err.ensures.short c.in-Err.ensures.fault

pub returns-in-Err-take-clause-named : goal.returns-in-Err-take-clause-named
returns-in-Err-take-clause-named g c =
    elim c.in-Err-take.ensures.fault [
      | inl is ↦ inr (piece_named c.args.image.now c.within.ensures _ _ c.fill_whole.new.piece c.in-Err-take.fault c.in_default.ensures.bytes c.requires (search rules) is)
      | inr none ↦ inl none
    ]
