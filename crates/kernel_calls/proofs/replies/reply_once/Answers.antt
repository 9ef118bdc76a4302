use Rattle.kernel_calls.proofs.Prelude.{refl}
use Rattle.kernel_calls.proofs.Tried.{has_charge, has_child, is_done}
use Rattle.kernel_calls.proofs.replies.reply_once.Goals as goal

pub returns-in-Map-clause-made : goal.returns-in-Map-clause-made
returns-in-Map-clause-made c =
    let made = c.try_map.ensures in
    is_done _ _ _ _ _ _ _ c.in-Map.is _ refl (λ slot f. refl) made.result made.state made.stay made.kept
    c.done_told.ensures

pub returns-in-Unmap-clause-made : goal.returns-in-Unmap-clause-made
returns-in-Unmap-clause-made c =
    let made = c.try_unmap.ensures in
    is_done _ _ _ _ _ _ _ c.in-Unmap.is _ refl (λ slot f. refl) made.result made.state made.stay made.kept
    c.done_told-in-Unmap.ensures

pub returns-in-Protect-clause-made : goal.returns-in-Protect-clause-made
returns-in-Protect-clause-made c =
    let made = c.try_protect.ensures in
    is_done _ _ _ _ _ _ _ c.in-Protect.is _ refl (λ slot f. refl) made.result made.state made.stay made.kept
    c.done_told-in-Protect.ensures

pub returns-in-Offer-clause-made : goal.returns-in-Offer-clause-made
returns-in-Offer-clause-made c =
    let made = c.try_offer.ensures in
    is_done _ _ _ _ _ _ _ c.in-Offer.is _ refl (λ slot f. refl) made.result made.state made.stay made.kept
    c.done_told-in-Offer.ensures

pub returns-in-Withdraw-clause-made : goal.returns-in-Withdraw-clause-made
returns-in-Withdraw-clause-made c =
    let made = c.try_withdraw.ensures in
    is_done _ _ _ _ _ _ _ c.in-Withdraw.is _ refl (λ slot f. refl) made.result made.state made.stay made.kept
    c.done_told-in-Withdraw.ensures

pub returns-in-Accept-clause-made : goal.returns-in-Accept-clause-made
returns-in-Accept-clause-made c =
    let made = c.try_accept.ensures in
    has_charge _ _ _ _ _ _ _ c.in-Accept.is _ _ refl (λ slot f. refl) made.result made.state made.stay made.kept
    c.done_told-in-Accept.ensures

pub returns-in-Spawn-clause-made : goal.returns-in-Spawn-clause-made
returns-in-Spawn-clause-made c =
    let made = c.try_spawn.ensures in
    has_child _ _ _ _ _ _ _ c.in-Spawn.is _ _ refl (λ slot f. refl) made.result made.state made.stay made.kept
    c.child_told.ensures

pub returns-in-Fork-clause-made : goal.returns-in-Fork-clause-made
returns-in-Fork-clause-made c =
    let made = c.try_fork.ensures in
    has_child _ _ _ _ _ _ _ c.in-Fork.is _ _ refl (λ slot f. refl) made.result made.state made.stay made.kept
    c.child_told-in-Fork.ensures

pub returns-in-Exit-clause-made : goal.returns-in-Exit-clause-made
returns-in-Exit-clause-made c =
    let made = c.try_exit.ensures in
    is_done _ _ _ _ _ _ _ c.in-Exit.is _ refl (λ slot f. refl) made.result made.state made.stay made.kept
    c.done_told-in-Exit.ensures
