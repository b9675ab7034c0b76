-- `mover::copies::copy_many` copies a part over a part. Assumes nothing.
use Rattle.std.proofs.Common.{◌≡◌, ◌+◌, ◌-◌, ◌<◌, ◌≤◌, ⊎_elim, arith}
use Rattle.mover.proofs.Blocking.{block_put, block_on, block_back}
use Rattle.mover.proofs.copies.copy_many.Goals as goal

pub returns-in-Lent : goal.returns-in-Lent
returns-in-Lent c =
    let a = c.args in
    let p : 0 < a.n = c.requires.many in
    rw c.in-Lent.is
    (block_put a.dst.now c.in-Lent.src.now c.copy_from_slice.new.self a.at a.to a.n (a.to + a.n - a.to) (rw c.in-Lent.is at c.requires.blocked.read p) (c.requires.blocked.write p) (omega arith)
    (let e : a.at + a.n - a.at ≡ a.to + a.n - a.to = omega arith in rw (← e) c.copy_from_slice.ensures.after))

pub returns-in-Inside : goal.returns-in-Inside
returns-in-Inside c =
    let a = c.args in
    let p : 0 < a.n = c.requires.many in
    let m : a.at + a.n ≤ a.to = ⊎_elim (λ u. u) (λ u. omega (arith, c.if-at-to.true)) (rw c.in-Inside.is at c.requires.blocked.apart) in
    let e : a.at + a.n - a.at ≡ a.n = omega arith in
    rw c.in-Inside.is
    (block_on a.dst.now a.at a.to a.n (rw c.in-Inside.is at c.requires.blocked.read p) (c.requires.blocked.write p) m c.split_at_mut-front.ensures.front c.split_at_mut-front.ensures.back
    (rw e at c.copy_from_slice-in-Inside.ensures.after))

pub returns-in-Inside-2 : goal.returns-in-Inside-2
returns-in-Inside-2 c =
    let a = c.args in
    let p : 0 < a.n = c.requires.many in
    let m : a.to + a.n ≤ a.at = ⊎_elim (λ u. omega (arith, c.if-at-to.false)) (λ u. u) (rw c.in-Inside.is at c.requires.blocked.apart) in
    rw c.in-Inside.is
    (block_back a.dst.now a.at a.to a.n (rw c.in-Inside.is at c.requires.blocked.read p) (c.requires.blocked.write p) m (omega arith) c.split_at_mut-front-in-Inside-2.ensures.front c.split_at_mut-front-in-Inside-2.ensures.back
    c.copy_from_slice-in-Inside-2.ensures.after)
