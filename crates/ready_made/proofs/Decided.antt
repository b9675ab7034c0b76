-- Each public call asks nothing of its caller, and no two differing outcomes satisfy its contract. Assumes nothing.
use Rattle.faults.specs.Decided.{Decided}
use Rattle.faults.proofs.Deciding.{by_equation}
use Rattle.ready_made.proofs.copy.Reads as copy
use Rattle.ready_made.proofs.slice.Reads as slice
use Rattle.ready_made.proofs.concatenate.Reads as concatenate
use Rattle.ready_made.proofs.subsample.Reads as subsample
use Rattle.ready_made.proofs.permute.Reads as permute
use Rattle.ready_made.proofs.pad_chw.Reads as pad_chw
use Rattle.ready_made.proofs.pad_hwc.Reads as pad_hwc
use Rattle.ready_made.proofs.all.Reads as all

pub copy_decided : Decided copy.Pre copy.Post
copy_decided = by_equation

pub slice_decided : Decided slice.Pre slice.Post
slice_decided = by_equation

pub concatenate_decided : Decided concatenate.Pre concatenate.Post
concatenate_decided = by_equation

pub subsample_decided : Decided subsample.Pre subsample.Post
subsample_decided = by_equation

pub permute_decided : Decided permute.Pre permute.Post
permute_decided = by_equation

pub pad_chw_decided : Decided pad_chw.Pre pad_chw.Post
pad_chw_decided = by_equation

pub pad_hwc_decided : Decided pad_hwc.Pre pad_hwc.Post
pad_hwc_decided = by_equation

pub all_decided : Decided all.Pre all.Post
all_decided = by_equation
