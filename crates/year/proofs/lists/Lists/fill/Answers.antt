use Rattle.std.proofs.Common.{ap, ◌∙◌}
use Rattle.year.proofs.Reading.{Taken, few_file, year_left, fault_left}
use Rattle.year.proofs.lists.Lists.fill.Goals as goal
use Rattle.yearfile.specs.Told.{to_come}
use Rattle.yearfile.specs.declared.stream.Records.{Records}

pub loop-item-init : goal.loop-item-init
loop-item-init c =
    let head = c.in_ok-header.ensures in
    let so : Taken _ _ _ = record { header = head.value.0; after = head.value.1; in_range = head.exact.0; fine = head.fault; whole = c.in_ok-check_length.ensures.fault } in
    let told = ap (λ (s : Records). to_come s) c.into_iter-item-iterator.ensures.into_iter_gives ∙ c.new-item-items.ensures in
    record {
      year = rw (c.clear.ensures.items, c.clear-2.ensures.items, c.clear-3.ensures.items) (year_left so _ told);
      fault = fault_left so _ told;
      few = few_file so;
    }
