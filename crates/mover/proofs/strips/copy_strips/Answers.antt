use Rattle.std.proofs.Common.{◌≡◌, ℕ, ◌+◌, ◌-◌, ◌<◌, ◌≤◌, List, sym, refl, ap, ◌∙◌, arith}
use Rattle.mover.specs.Private.Adding.{along}
use Rattle.mover.specs.Private.Patches.{patch_copied, sixteenth_of, PatchFits, PatchReads}
use Rattle.mover.proofs.Patched.{Rowed, some_rows, rows_start, rows_more, rows_end, some_fit, some_read}
use Rattle.mover.proofs.Stepping.{sixteen_on, far}
use Rattle.mover.proofs.strips.copy_strips.Goals as goal
use Rattle.mover.proofs.strips.copy_strips.Goals.{At-loop-k}

-- how many rows a strip has
abbrev rows : At-loop-k → ℕ
rows l = l.sixteenth-n.result

rows_are : (l : At-loop-k) → rows l ≡ sixteenth_of l.args.p.size
rows_are l = l.sixteenth-n.ensures

pub loop-k-init : goal.loop-k-init
loop-k-init c =
    rows_start c.args.origin c.args.dst.now c.args.p (omega (arith, c.well_formed)) (omega (arith, c.well_formed))

-- the next n rows
module _ (l : At-loop-k) (n : ℕ) (h : l.loop-k.k + n ≤ l.args.p.rows) where
  its-fit : PatchFits l.loop-k.dst (some_rows l.args.p l.loop-k.at l.loop-k.to n)
  its-fit = some_fit l.loop-k.invariant l.requires.patch_fits l.requires.patch_reads n h

  its-read : PatchReads l.args.origin l.loop-k.dst (some_rows l.args.p l.loop-k.at l.loop-k.to n)
  its-read = some_read l.loop-k.invariant l.requires.patch_fits l.requires.patch_reads n h

  its-next : {at to : ℕ} {d : List ℕ} → d ≡ patch_copied l.args.origin l.loop-k.dst (some_rows l.args.p l.loop-k.at l.loop-k.to n)
      → at ≡ along l.loop-k.at l.args.p.row_jump n → to ≡ along l.loop-k.to l.args.p.row_stride n
      → Rowed l.args.origin l.args.dst.now l.args.p d at to (l.loop-k.k + n)
  its-next e x y = rows_more l.loop-k.invariant l.requires.patch_fits l.requires.patch_reads n h e x y

within : (l : At-loop-k) → rows l ≤ l.args.p.rows - l.loop-k.k → l.loop-k.k + rows l ≤ l.args.p.rows
within l h = omega (arith, h, l.loop-k.invariant.within)

pub copy_strip-requires : goal.copy_strip-requires
copy_strip-requires c =
    let h = within (goal.at-copy_strip-requires c).At-loop-k c.loop-k-test.true in record {
      tiled = record { turns = record { size = c.requires.turns.size; jump = c.requires.turns.jump; stride = c.requires.turns.stride }; rows = rows_are (goal.at-copy_strip-requires c).At-loop-k };
      patch_fits = its-fit (goal.at-copy_strip-requires c).At-loop-k (rows (goal.at-copy_strip-requires c).At-loop-k) h;
      patch_reads = its-read (goal.at-copy_strip-requires c).At-loop-k (rows (goal.at-copy_strip-requires c).At-loop-k) h;
    }

pub loop-k-preserved : goal.loop-k-preserved
loop-k-preserved c =
    let p = c.args.p in
    its-next (goal.at-loop-k-preserved c).At-loop-k (rows (goal.at-loop-k-preserved c).At-loop-k) (within (goal.at-loop-k-preserved c).At-loop-k c.loop-k-test.true) c.copy_strip.ensures
    (sixteen_on c.loop-k.at p.size p.row_jump c.requires.patch_fits.sized c.requires.turns.size c.requires.turns.jump refl ∙ ap (along c.loop-k.at p.row_jump) (sym (rows_are (goal.at-loop-k-preserved c).At-loop-k)))
    (far c.loop-k.to (sixteenth_of p.size) p.row_stride c.across-further.ensures refl ∙ ap (along c.loop-k.to p.row_stride) (sym (rows_are (goal.at-loop-k-preserved c).At-loop-k)))

rest : (l : At-loop-k) → l.loop-k.k < l.args.p.rows → l.loop-k.k + (l.args.p.rows - l.loop-k.k) ≤ l.args.p.rows
rest l h = omega arith

pub copy_rows-requires : goal.copy_rows-requires
copy_rows-requires c =
    let n = c.args.p.rows - c.loop-k.k in
    let h = rest (goal.at-copy_rows-requires c).At-loop-k c.if-k-p.true in record {
      patch_fits = its-fit (goal.at-copy_rows-requires c).At-loop-k n h;
      patch_reads = its-read (goal.at-copy_rows-requires c).At-loop-k n h;
    }

whole : (l : At-loop-k) {d : List ℕ} {at to k : ℕ} → Rowed l.args.origin l.args.dst.now l.args.p d at to k
    → l.args.p.rows ≤ k → d ≡ patch_copied l.args.origin l.args.dst.now l.args.p
whole l r h = rows_end r l.requires.patch_fits l.requires.patch_reads h

pub returns-then-k-p : goal.returns-then-k-p
returns-then-k-p c =
    let n = c.args.p.rows - c.loop-k.k in
    whole (goal.at-returns-then-k-p c).At-loop-k (its-next (goal.at-returns-then-k-p c).At-loop-k n (rest (goal.at-returns-then-k-p c).At-loop-k c.if-k-p.true) c.copy_rows.ensures refl refl) (omega arith)
