use Rattle.test_locks.proofs.crowds.take_and_put_back.Goals as goal

pub put_back-requires : goal.put_back-requires
put_back-requires g c = let s = c.take-held.ensures.stands.1 in record { promised = (s.0, s.1, s.2, s.3, tt) }
