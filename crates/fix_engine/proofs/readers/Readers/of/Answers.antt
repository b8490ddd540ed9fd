use Rattle.std.proofs.Common.{◌≤◌, length, arith}
use Rattle.fix_engine.proofs.Tables.{bounds_within, bounds_rise, bounds_end, row-is}
use Rattle.fix_engine.proofs.readers.Readers.of.Goals as goal

pub index-begin-requires : goal.index-begin-requires
index-begin-requires c =
    let l = bounds_within _ _ c.self.invariant _ c.self.view_is _ c.requires in omega arith

pub index-end-requires : goal.index-end-requires
index-end-requires c =
    let l = bounds_within _ _ c.self.invariant _ c.self.view_is _ c.requires in omega arith

pub offset_bounds-deref-begin : goal.offset_bounds-deref-begin
offset_bounds-deref-begin c =
    let up = bounds_rise _ _ c.self.invariant _ c.self.view_is _ c.requires _ _ c.index-begin.ensures c.index-end.ensures in
    let end : c.index-end.result.now ≤ length c.self.inside.edges.items = bounds_end _ _ c.self.invariant _ c.self.view_is _ c.requires _ _ c.index-begin.ensures c.index-end.ensures in
    let rise : c.index-begin.result.now ≤ c.index-end.result.now = up in
    omega (arith, c.self.inside.edges.ok, c.self.inside.edges.small)

pub slice_bounds-result-count : goal.slice_bounds-result-count
slice_bounds-result-count c =
    bounds_rise _ _ c.self.invariant _ c.self.view_is _ c.requires _ _ c.index-begin.ensures c.index-end.ensures

pub slice_bounds-result-start : goal.slice_bounds-result-start
slice_bounds-result-start c =
    bounds_rise _ _ c.self.invariant _ c.self.view_is _ c.requires _ _ c.index-begin.ensures c.index-end.ensures

pub slice_bounds-result-end : goal.slice_bounds-result-end
slice_bounds-result-end c =
    rw c.deref.ensures.value (bounds_end _ _ c.self.invariant _ c.self.view_is _ c.requires _ _ c.index-begin.ensures c.index-end.ensures)

pub returns : goal.returns
returns c =
    row-is _ _ c.self.invariant _ c.self.view_is _ c.requires _ _ c.index-begin.ensures c.index-end.ensures _ c.deref.ensures.value
