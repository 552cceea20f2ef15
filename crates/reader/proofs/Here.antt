-- Where a reader stands in its text. Assumes nothing.
use Rattle.std.proofs.Common.{◌+◌, ◌*◌, ◌<◌, ◌≤◌, ap, arith}
use Rattle.reader.specs.Cursors.{Placed}
use Rattle.reader.specs.Reading.{offset_of, text_of}
use Rattle.reader.specs.declared.cursor.Cursor.{Cursor}
use Rattle.reader.specs.declared.reader.Reader.{Reader}
use Rattle.reader.proofs.Places.{column_bounds, line_bound}

-- its line, its column and its flag are those of its offset
pub placed_here : (r : Reader) → Placed (text_of r) r.here
placed_here r =
    record {
      within = r.within;
      line = ap (λ (x : Cursor). x.line) r.spotted;
      column = ap (λ (x : Cursor). x.column) r.spotted;
      first = ap (λ (x : Cursor). x.first) r.spotted;
    }

-- what a text of at most 65,535 bytes leaves for a place in it
pub record Small (c : Cursor) : Type 0 where
  pub offset : c.offset < 65536
  pub line : c.line ≤ 1 + c.offset
  pub from : 1 ≤ c.column
  pub to : c.column ≤ 1 + 8 * c.offset

pub small : (r : Reader) → Small r.here
small r =
    let placed = placed_here r in
    let bounds = column_bounds (text_of r) (offset_of r) in
    record {
      offset = omega (arith, r.within, r.short);
      line = omega (arith, placed.line, line_bound (text_of r) (offset_of r));
      from = omega (arith, placed.column);
      to = omega (arith, placed.column);
    }
