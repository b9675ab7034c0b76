-- `mover::within::meets` asks whether the later start lies within the other part. Assumes nothing.
use Rattle.mover.proofs.Meeting.{first_meets, second_meets}
use Rattle.mover.proofs.within.meets.Goals as goal

pub returns-then-p-q : goal.returns-then-p-q
returns-then-p-q c =
    first_meets c.args.p c.args.q c.if-p-q.true

pub returns : goal.returns
returns c =
    second_meets c.args.p c.args.q c.if-p-q.false
