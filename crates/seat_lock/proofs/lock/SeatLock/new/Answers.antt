use Rattle.seat_lock.proofs.Locking.{opening_holds}
use Rattle.seat_lock.proofs.lock.SeatLock.new.Goals as goal

pub vacant-requires : goal.vacant-requires
vacant-requires g c = opening_holds {T = g.row.T.Denot}
