use Rattle.std.proofs.Common.{◌/◌, ◌%◌, ℕ, subst, ◌≡◌, ◌+◌, ◌-◌, ◌*◌, ◌^◌, ◌<◌, ◌≤◌, length, slice_index, ap, ◌∙◌, refl, arith}
use lib.Seq.{sets}
use Rattle.mover.specs.Private.Elements.{source_bytes}
use Rattle.mover.specs.Private.Adding.{along}
use Rattle.mover.specs.Private.Runs.{run_copied}
use Rattle.mover.specs.Private.Shuffles.{made}
use Rattle.mover.proofs.Blocking.{part_put}
use Rattle.mover.proofs.Bytes.{short_source}
use Rattle.mover.proofs.Shuffled.{length_made}
use Rattle.mover.proofs.Evening.{evens_left, evened_start, evened_asks, evened_end, evened_reads, evened_writes, evened_more}
use Rattle.mover.proofs.courses.copy_evens.Goals as goal
use Rattle.mover.proofs.courses.copy_evens.Goals.{At-loop, In-loop}

-- the pairs lie in the source, and both memories are short enough
lies : (l : At-loop) → let n = l.pairs_in-n.result in
    0 < n → l.args.c.at + n + n ≤ length (source_bytes l.args.origin l.args.dst.now)
lies l p = omega (arith, l.pairs_in-n.ensures.1 p, ap length l.source.ensures)

short : (l : At-loop) → length l.args.dst.now < 2 ^ 64
short l = omega (arith, l.well_formed)

short-source : (l : At-loop) → length (source_bytes l.args.origin l.args.dst.now) < 2 ^ 64
short-source l = omega (arith, short_source l.args.origin l.args.dst.now l.requires.readable.short (omega (arith, l.well_formed)))

sixteen : (c : In-loop) → c.loop.counter * 16 + 16 ≤ c.pairs_in-n.result
sixteen c = omega (arith, c.loop-test.true, c.loop.invariant.stored.within)

pub read_evens-a-requires : goal.read_evens-a-requires
read_evens-a-requires c =
    rw c.source-in-loop.ensures
    (evened_reads c.loop.invariant c.requires.writable c.requires.readable c.pairs_in-n.ensures.0 c.requires.evens (lies (goal.at.read_evens-a-requires c).At-loop) (short-source (goal.at.read_evens-a-requires c).At-loop) (short (goal.at.read_evens-a-requires c).At-loop) (sixteen (goal.at.read_evens-a-requires c).In-loop))

pub slice_bounds-copy_from_slice-end : goal.slice_bounds-copy_from_slice-end
slice_bounds-copy_from_slice-end c =
    evened_writes c.loop.invariant c.requires.writable c.requires.readable c.pairs_in-n.ensures.0 c.requires.evens (lies (goal.at.slice_bounds-copy_from_slice-end c).At-loop) (short-source (goal.at.slice_bounds-copy_from_slice-end c).At-loop) (short (goal.at.slice_bounds-copy_from_slice-end c).At-loop) (sixteen (goal.at.slice_bounds-copy_from_slice-end c).In-loop)

pub loop-preserved : goal.loop-preserved
loop-preserved c =
    let l = c.loop in
    let picked : c.copy_from_slice.new.self ≡ made 16 (λ k. slice_index (source_bytes c.args.origin l.dst) (l.at + 2 * k)) =
    c.copy_from_slice.ensures.after ∙ c.read_evens-a.ensures ∙ rw c.source-in-loop.ensures in
    let w : l.to + 16 - l.to ≡ 16 = omega arith in
    let stored = part_put l.dst c.copy_from_slice.new.self l.to (l.to + 16 - l.to) (ap length picked ∙ rw (w, length_made))
    (rw w (evened_writes c.loop.invariant c.requires.writable c.requires.readable c.pairs_in-n.ensures.0 c.requires.evens (lies (goal.at-loop-preserved c).At-loop) (short-source (goal.at-loop-preserved c).At-loop) (short (goal.at-loop-preserved c).At-loop) (sixteen (goal.at-loop-preserved c).In-loop)))
    ∙ ap (sets l.dst l.to) picked in
    let more = evened_more c.loop.invariant c.requires.writable c.requires.readable c.pairs_in-n.ensures.0 c.requires.evens (lies (goal.at-loop-preserved c).At-loop) (short-source (goal.at-loop-preserved c).At-loop) (short (goal.at-loop-preserved c).At-loop) (sixteen (goal.at-loop-preserved c).In-loop)
    stored refl refl in
    let e : (c.loop.counter + 1) * 16 ≡ c.loop.counter * 16 + 16 = omega arith in
    rw e more

pub loop-init : goal.loop-init
loop-init c =
    evened_start c.args.origin c.args.dst.now c.args.c c.pairs_in-n.result (omega (arith, c.well_formed)) (omega (arith, c.well_formed))

-- the loop has ended: as many blocks are copied as there are
ended : (n k : ℕ) → n < 2 ^ 64 → n / 16 ≤ k → k ≤ n / 16 → n / 16 * 16 % 18446744073709551616 ≡ k * 16
ended n k a b c = omega (arith, a, b, c)

pub copy_each-requires-clause-writable : goal.copy_each-requires-clause-writable
copy_each-requires-clause-writable c =
    let e = ended c.pairs_in-n.result c.loop.counter (omega (arith, c.pairs_in-n.ensures.0, c.well_formed)) c.loop-test.false c.loop.auto.counter-end in
    rw e (evened_asks c.loop.invariant c.requires.writable c.requires.readable c.pairs_in-n.ensures.0 c.requires.evens).0

pub copy_each-requires-clause-readable : goal.copy_each-requires-clause-readable
copy_each-requires-clause-readable c =
    let e = ended c.pairs_in-n.result c.loop.counter (omega (arith, c.pairs_in-n.ensures.0, c.well_formed)) c.loop-test.false c.loop.auto.counter-end in
    rw e (evened_asks c.loop.invariant c.requires.writable c.requires.readable c.pairs_in-n.ensures.0 c.requires.evens).1

pub returns : goal.returns
returns c =
    let e = ended c.pairs_in-n.result c.loop.counter (omega (arith, c.pairs_in-n.ensures.0, c.well_formed)) c.loop-test.false c.loop.auto.counter-end in
    let told = evened_end c.loop.invariant c.requires.writable c.requires.readable c.pairs_in-n.ensures.0 c.requires.evens
    (subst (λ (y : ℕ). c.copy_each.result ≡ along c.loop.to 1 (c.args.c.n - y)) e c.copy_each.ensures.next)
    (subst (λ (y : ℕ). c.copy_each.new.dst ≡ run_copied c.args.origin c.loop.dst (evens_left c.args.c c.loop.at c.loop.to y)) e c.copy_each.ensures.written) in record {
      next = told.0;
      written = told.1;
    }
