-- `mover::bands::move_band` moves a band as patches: one, or what is padded in front, what is kept, and what is padded behind. Assumes
-- nothing.
use Rattle.std.proofs.Common.{◌≡◌, ◌+◌, ◌%◌, ◌^◌, ◌<◌, length, refl, ◌∙◌, arith}
use Rattle.mover.specs.Private.Adding.{along}
use Rattle.mover.proofs.Banding.{place_at, starts_at, part_fits, part_reads, padded_length, copied_length, band_padded, band_copied, band_parted, band_ended}
use Rattle.mover.proofs.bands.move_band.Goals as goal
use Rattle.mover.proofs.bands.move_band.Goals.{After-pad_patch, In-Some}

-- where a band is copied whole
pub copy_patch-requires : goal.copy_patch-requires
copy_patch-requires c =
    let x = c.args.plan.d3 in
    let w : x.count ≡ x.extent = c.if-x.true in
    let f : c.args.row.to < 2 ^ 64 = omega (arith, c.well_formed) in record {
      patch_fits = part_fits c.requires.banded 0 c.patch.ensures (λ _. starts_at c.args.row.to x.stride f refl) (omega arith) refl;
      patch_reads = part_reads c.requires.banded c.if-band.true c.patch.ensures (λ _. starts_at c.args.row.to x.stride f (omega (arith, c.requires.banded.axis.within))) (omega arith) refl;
    }

pub returns-then-x : goal.returns-then-x
returns-then-x c =
    band_copied c.requires.banded c.if-band.true c.if-x.true c.patch.ensures c.copy_patch.ensures

-- where what is kept begins
kept_at : (c : After-pad_patch) → (c.args.row.to + c.args.f.front) % 2 ^ 64 ≡ along c.args.row.to c.args.plan.d3.stride c.args.plan.d3.pre
kept_at c =
    place_at c.args.row.to c.args.plan.d3.stride c.args.plan.d3.pre c.requires.framed.front refl

first-length : (c : After-pad_patch) → length c.pad_patch.new.dst ≡ length c.args.dst.now
first-length c =
    padded_length c.args.dst.now c.patch-then-band.result c.pad_patch.ensures

pub copy_patch-requires-then-band : goal.copy_patch-requires-then-band
copy_patch-requires-then-band c =
    record {
      patch_fits = part_fits c.requires.banded c.args.plan.d3.pre c.patch-then-band-2.ensures (λ _. kept_at (goal.at-copy_patch-requires-then-band c).After-pad_patch) c.requires.banded.axis.within (first-length (goal.at-copy_patch-requires-then-band c).After-pad_patch);
      patch_reads = part_reads c.requires.banded c.if-band.true c.patch-then-band-2.ensures (λ _. kept_at (goal.at-copy_patch-requires-then-band c).After-pad_patch) (omega arith) (first-length (goal.at-copy_patch-requires-then-band c).After-pad_patch);
    }

-- where it goes on behind
rear_at : (c : In-Some) → (c.args.row.to + c.in-Some.rear) % 2 ^ 64 ≡ along c.args.row.to c.args.plan.d3.stride (c.args.plan.d3.pre + c.args.plan.d3.count)
rear_at c =
    place_at c.args.row.to c.args.plan.d3.stride (c.args.plan.d3.pre + c.args.plan.d3.count) (rw c.in-Some.is at c.requires.framed.rear) refl

pub pad_patch-requires-in-Some : goal.pad_patch-requires-in-Some
pad_patch-requires-in-Some c =
    let x = c.args.plan.d3 in
    part_fits c.requires.banded (x.pre + x.count) c.patch-in-Some.ensures (λ g. rear_at (goal.at-pad_patch-requires-in-Some c).In-Some) (omega (arith, c.requires.banded.axis.within))
    (copied_length c.args.origin c.pad_patch.new.dst c.patch-then-band-2.result c.copy_patch-then-band.ensures ∙ first-length (goal.at-pad_patch-requires-in-Some c).After-pad_patch)

pub returns-in-Some : goal.returns-in-Some
returns-in-Some c =
    band_parted c.requires.banded c.if-band.true (kept_at (goal.at-returns-in-Some c).After-pad_patch) (λ g. rear_at (goal.at-returns-in-Some c).In-Some)
    c.patch-then-band.ensures c.pad_patch.ensures c.patch-then-band-2.ensures c.copy_patch-then-band.ensures c.patch-in-Some.ensures c.pad_patch-in-Some.ensures

pub returns-in_default : goal.returns-in_default
returns-in_default c =
    band_ended c.requires.banded c.if-band.true (kept_at (goal.at-returns-in_default c).After-pad_patch) (rw c.in_default.is at c.requires.framed.rear)
    c.patch-then-band.ensures c.pad_patch.ensures c.patch-then-band-2.ensures c.copy_patch-then-band.ensures

pub returns : goal.returns
returns c =
    band_padded c.requires.banded c.if-band.false c.patch-2.ensures c.pad_patch-2.ensures
