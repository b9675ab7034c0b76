use Rattle.std.proofs.Common.{◌≡◌, ℕ, ◌+◌, ◌%◌, ◌^◌, ◌-◌, ◌<◌, ◌≤◌, List, sym, refl, ap, ◌∙◌, arith}
use Rattle.mover.specs.declared.strips.Step.{Step}
use Rattle.mover.specs.Private.Adding.{along}
use Rattle.mover.specs.Private.Patches.{patch_copied, swapped_of, tile_step, tile_columns, PatchFits, PatchReads}
use Rattle.mover.proofs.Patched.{Rowed, some_rows, rows_start, rows_more, rows_end, some_fit, some_read, swap_fits, swap_reads, swap_copied}
use Rattle.mover.proofs.Stepping.{some_columns, tiled_part, tile_part, tile_home, tile_place}
use Rattle.mover.proofs.strips.copy_strip.Goals as goal
use Rattle.mover.proofs.strips.copy_strip.Goals.{At-loop-k}

step_is : (l : At-loop-k) → l.step_of-s.result ≡ tile_step l.args.tile l.args.p
step_is l = l.step_of-s.ensures

columns-is : (l : At-loop-k) → l.step_of-s.result.columns ≡ tile_columns l.args.tile l.args.p
columns-is l = ap (λ (x : Step). x.columns) (step_is l)

pub loop-k-init : goal.loop-k-init
loop-k-init c =
    rows_start c.args.origin c.args.dst.now (swapped_of c.args.p) (omega (arith, c.well_formed)) (omega (arith, c.well_formed))

-- the next n columns, as rows
module _ (l : At-loop-k) (n : ℕ) (h : l.loop-k.k + n ≤ l.args.p.columns) where
  its-fit : PatchFits l.loop-k.dst (some_rows (swapped_of l.args.p) l.loop-k.at l.loop-k.to n)
  its-fit = some_fit l.loop-k.invariant (swap_fits l.requires.patch_fits) (swap_reads l.requires.patch_reads) n h

  its-read : PatchReads l.args.origin l.loop-k.dst (some_rows (swapped_of l.args.p) l.loop-k.at l.loop-k.to n)
  its-read = some_read l.loop-k.invariant (swap_fits l.requires.patch_fits) (swap_reads l.requires.patch_reads) n h

  its-next : {at to : ℕ} {d : List ℕ} → d ≡ patch_copied l.args.origin l.loop-k.dst (some_columns l.args.p l.loop-k.at l.loop-k.to n)
      → at ≡ along l.loop-k.at l.args.p.jump n → to ≡ along l.loop-k.to l.args.p.stride n
      → Rowed l.args.origin l.args.dst.now (swapped_of l.args.p) d at to (l.loop-k.k + n)
  its-next e x y =
      rows_more l.loop-k.invariant (swap_fits l.requires.patch_fits) (swap_reads l.requires.patch_reads) n h (e ∙ swap_copied l.args.origin its-fit) x y

within : (l : At-loop-k) → l.step_of-s.result.columns ≤ l.args.p.columns - l.loop-k.k → l.loop-k.k + l.step_of-s.result.columns ≤ l.args.p.columns
within l h = omega (arith, h, l.loop-k.invariant.within)

pub copy_tile-requires : goal.copy_tile-requires
copy_tile-requires c =
    let n = c.step_of-s.result.columns in
    let h = within (goal.at-copy_tile-requires c).At-loop-k c.loop-k-test.true in record {
      tiled = (tiled_part c.args.tile c.args.p c.loop-k.at c.loop-k.to n c.requires.tiled, columns-is (goal.at-copy_tile-requires c).At-loop-k ∙ sym (tile_part c.args.tile c.args.p c.loop-k.at c.loop-k.to n));
      patch_fits = swap_fits (its-fit (goal.at-copy_tile-requires c).At-loop-k n h);
      patch_reads = swap_reads (its-read (goal.at-copy_tile-requires c).At-loop-k n h);
    }

pub loop-k-preserved : goal.loop-k-preserved
loop-k-preserved c =
    let n = c.step_of-s.result.columns in
    let z = c.requires.patch_fits.sized in
    its-next (goal.at-loop-k-preserved c).At-loop-k n (within (goal.at-loop-k-preserved c).At-loop-k c.loop-k-test.true) c.copy_tile.ensures
    (tile_home c.args.tile c.args.p z c.requires.tiled c.loop-k.at (ap (λ (x : Step). (c.loop-k.at + x.jump) % 2 ^ 64) (step_is (goal.at-loop-k-preserved c).At-loop-k)) ∙ ap (along c.loop-k.at c.args.p.jump) (sym (columns-is (goal.at-loop-k-preserved c).At-loop-k)))
    (tile_place c.args.tile c.args.p z c.requires.tiled c.loop-k.to (ap (λ (x : Step). (c.loop-k.to + x.stride) % 2 ^ 64) (step_is (goal.at-loop-k-preserved c).At-loop-k)) ∙ ap (along c.loop-k.to c.args.p.stride) (sym (columns-is (goal.at-loop-k-preserved c).At-loop-k)))

rest : (l : At-loop-k) → l.loop-k.k < l.args.p.columns → l.loop-k.k + (l.args.p.columns - l.loop-k.k) ≤ l.args.p.columns
rest l h = omega arith

pub copy_rows-requires : goal.copy_rows-requires
copy_rows-requires c =
    let n = c.args.p.columns - c.loop-k.k in
    let h = rest (goal.at-copy_rows-requires c).At-loop-k c.if-k-p.true in record {
      patch_fits = swap_fits (its-fit (goal.at-copy_rows-requires c).At-loop-k n h);
      patch_reads = swap_reads (its-read (goal.at-copy_rows-requires c).At-loop-k n h);
    }

-- all columns, and the same patch
whole : (l : At-loop-k) {d : List ℕ} {at to k : ℕ} → Rowed l.args.origin l.args.dst.now (swapped_of l.args.p) d at to k
    → l.args.p.columns ≤ k → d ≡ patch_copied l.args.origin l.args.dst.now l.args.p
whole l r h =
    rows_end r (swap_fits l.requires.patch_fits) (swap_reads l.requires.patch_reads) h ∙ swap_copied l.args.origin l.requires.patch_fits

pub returns-then-k-p : goal.returns-then-k-p
returns-then-k-p c =
    let n = c.args.p.columns - c.loop-k.k in
    whole (goal.at-returns-then-k-p c).At-loop-k (its-next (goal.at-returns-then-k-p c).At-loop-k n (rest (goal.at-returns-then-k-p c).At-loop-k c.if-k-p.true) c.copy_rows.ensures refl refl) (omega arith)

pub returns-else-k-p : goal.returns-else-k-p
returns-else-k-p c = whole (goal.at-returns-else-k-p c).At-loop-k c.loop-k.invariant c.if-k-p.false
