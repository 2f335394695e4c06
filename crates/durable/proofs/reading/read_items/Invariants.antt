use Rattle.std.proofs.Common.{◌≡◌, ◌+◌, ◌-◌, ◌≤◌, ◌<◌, ◌++◌, List, length, drop, min}
use Rattle.site_disk.specs.Model.{DiskState}
use Rattle.durable.specs.Items.{Item, item_blocks}
use Rattle.durable.specs.Reading.{AreRead}
use Rattle.durable.proofs.reading.read_items.Given as goal

-- the items so far stand after the head, and a gate after them
abbrev pub invariant-loop-buffer : goal.invariant-loop-buffer
invariant-loop-buffer g l = record {
  within : l.recorded.gate < l.len;
  room : min l.len 1048576 ≤ length l.buffer.items;
  bounded : length l.buffer.items ≤ l.len;
  none_failed : g.D.Disk.failed l.disk ≡ g.D.Disk.failed l.fn.disk;
  state : (d : DiskState) → g.D.Disk.stands_for l.fn.disk d → g.D.Disk.stands_for l.disk d;
  read : (items : List Item) × AreRead l.cluster items l.recorded
      × ((d : DiskState) → g.D.Disk.stands_for l.fn.disk d → l.len ≡ length d.seen → drop 10 d.seen ≡ item_blocks items ++ drop l.recorded.gate d.seen);
}

abbrev pub decreases-loop-buffer : goal.decreases-loop-buffer
decreases-loop-buffer g l = (l.len - l.recorded.gate) + (l.len - length l.buffer.items)
