use Rattle.std.proofs.Common.{◌≡◌, ◌∙◌, sym, ap, subst, List, arith, rules, is_lt, is_le}
use Rattle.std.specs.Cmp.Lexicographic.{slice_cmp}
use Rattle.std.specs.List.Sorted.{IsPartitionPoint, IsSortedByKey}
use Rattle.std.specs.Ordering.{nat_cmp}
use Rattle.std.proofs.lemmas.List.Sorted.{IsPartitionPoint-from_clause}
use Rattle.class_world.specs.Rows.{of_name}
use Rattle.class_world.proofs.Halves.{parted_below, parted_upto, in_order, found}
use Rattle.class_world.proofs.by_name.ByName.of_name.Goals as goal

pub part-requires : goal.part-requires
part-requires g c =
    let name = g.T.Named.name_of in
    let n = c.args.name.now in
    let xs = c.as_slice-items.result.now in
    let sorted : IsSortedByKey name (slice_cmp nat_cmp) xs =
    subst (λ ys. IsSortedByKey name (slice_cmp nat_cmp) ys) (sym c.as_slice-items.ensures) c.self.invariant in
    let below = IsPartitionPoint-from_clause (λ y. is_lt (slice_cmp nat_cmp (name y) n)) xs c.partition_point-start.result
    c.partition_point-start.ensures.partitioned (parted_below name n xs sorted) (λ a r q k. search rules) in
    let upto = IsPartitionPoint-from_clause (λ y. is_le (slice_cmp nat_cmp (name y) n)) xs c.partition_point-end.result
    c.partition_point-end.ensures.partitioned (parted_upto name n xs sorted) (λ a r q k. search rules) in
    record {
      order =
          in_order name n xs c.partition_point-start.result c.partition_point-end.result
          c.partition_point-start.ensures.bound c.partition_point-end.ensures.bound below upto;
      within = c.partition_point-end.ensures.bound;
    }

pub returns : goal.returns
returns g c =
    let name = g.T.Named.name_of in
    let n = c.args.name.now in
    let xs = c.as_slice-items.result.now in
    let sorted : IsSortedByKey name (slice_cmp nat_cmp) xs =
    subst (λ ys. IsSortedByKey name (slice_cmp nat_cmp) ys) (sym c.as_slice-items.ensures) c.self.invariant in
    let below = IsPartitionPoint-from_clause (λ y. is_lt (slice_cmp nat_cmp (name y) n)) xs c.partition_point-start.result
    c.partition_point-start.ensures.partitioned (parted_below name n xs sorted) (λ a r q k. search rules) in
    let upto = IsPartitionPoint-from_clause (λ y. is_le (slice_cmp nat_cmp (name y) n)) xs c.partition_point-end.result
    c.partition_point-end.ensures.partitioned (parted_upto name n xs sorted) (λ a r q k. search rules) in
    c.part.ensures
    ∙ found name n xs c.partition_point-start.result c.partition_point-end.result c.partition_point-start.ensures.bound
    c.partition_point-end.ensures.bound below upto
    ∙ ap (λ ys. of_name name n ys) (c.as_slice-items.ensures ∙ c.self.view_is)
