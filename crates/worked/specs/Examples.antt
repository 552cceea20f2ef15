-- Eight sheets, and what the layout rules and the sheet grammar make of them. In a text below, a slash ends a line; lines and columns count from 1. Assumes nothing.
use Rattle.std.specs.Prelude.{List, [], ◌∷◌}
use Rattle.grammar.specs.Sheet.{name, number, open_brace, close_brace, semicolon, open_paren, close_paren, equals, op, let', in', of', do'}
use Rattle.sheet.specs.declared.fault.Reason.TheVariants.{NotViable, BlockOpen}
use Rattle.layout.specs.Service.{Event}
use Rattle.worked.specs.Pieces.{Example, Finished, Happens, begun, fed, first, later, not_ended, not_fed, place, plain, ◌▸◌}

-- no lexeme gives `{ }`
abbrev pub nothing : Example
nothing =
    record {
      pieces = [];
      refusals = [];
      end = place 1 1;
      inserts = open_brace ∷ close_brace ∷ [];
      gives = open_brace ∷ close_brace ∷ [];
    }

-- `mill of/  ne3 = 120/  ne4 = ne3 + 5/pier = let a = 2 in a` gives `{ mill of { ne3 = 120 ; ne4 = ne3 + 5 } ; pier = let { a = 2 } in a }`
abbrev pub nested : Example
nested =
    record {
      pieces =
          ((open_brace ∷ []) ▸ first name 1 1 0 4) ∷
          plain (later of' 1 6 5 2) ∷
          ((open_brace ∷ []) ▸ first name 2 3 10 3) ∷
          plain (later equals 2 7 14 1) ∷
          plain (later number 2 9 16 3) ∷
          ((semicolon ∷ []) ▸ first name 3 3 22 3) ∷
          plain (later equals 3 7 26 1) ∷
          plain (later name 3 9 28 3) ∷
          plain (later op 3 13 32 1) ∷
          plain (later number 3 15 34 1) ∷
          ((close_brace ∷ semicolon ∷ []) ▸ first name 4 1 36 4) ∷
          plain (later equals 4 6 41 1) ∷
          plain (later let' 4 8 43 3) ∷
          ((open_brace ∷ []) ▸ later name 4 12 47 1) ∷
          plain (later equals 4 14 49 1) ∷
          plain (later number 4 16 51 1) ∷
          ((close_brace ∷ []) ▸ later in' 4 18 53 2) ∷
          plain (later name 4 21 56 1) ∷
          [];
      refusals = [];
      end = place 4 22;
      inserts = close_brace ∷ [];
      gives =
          open_brace ∷ name ∷ of' ∷ open_brace ∷ name ∷ equals ∷ number ∷ semicolon ∷ name ∷ equals ∷ name ∷ op ∷ number ∷ close_brace ∷
          semicolon ∷ name ∷ equals ∷ let' ∷ open_brace ∷ name ∷ equals ∷ number ∷ close_brace ∷ in' ∷ name ∷ close_brace ∷ [];
    }

-- `x = 1 )` is refused as not viable (11) at `)`, in the block of column 1; finished then, it gives `{ x = 1 }`
abbrev pub stray_parenthesis : Example
stray_parenthesis =
    record {
      pieces =
          ((open_brace ∷ []) ▸ first name 1 1 0 1) ∷
          plain (later equals 1 3 2 1) ∷
          plain (later number 1 5 4 1) ∷
          [];
      refusals = not_fed (later close_paren 1 7 6 1) NotViable 1 ∷ [];
      end = place 1 8;
      inserts = close_brace ∷ [];
      gives = open_brace ∷ name ∷ equals ∷ number ∷ close_brace ∷ [];
    }

-- `  a = 1/b` is refused as not viable (11) at `b`, in the block of column 3
abbrev pub shallower : List Event
shallower =
    begun ∷
    fed ((open_brace ∷ []) ▸ first name 1 3 2 1) ∷
    fed (plain (later equals 1 5 4 1)) ∷
    fed (plain (later number 1 7 6 1)) ∷
    not_fed (first name 2 1 8 1) NotViable 3 ∷
    []

-- `a of/b = 2` gives `{ a of { } ; b = 2 }`
abbrev pub no_deeper : Example
no_deeper =
    record {
      pieces =
          ((open_brace ∷ []) ▸ first name 1 1 0 1) ∷
          plain (later of' 1 3 2 2) ∷
          ((open_brace ∷ close_brace ∷ semicolon ∷ []) ▸ first name 2 1 5 1) ∷
          plain (later equals 2 3 7 1) ∷
          plain (later number 2 5 9 1) ∷
          [];
      refusals = [];
      end = place 2 6;
      inserts = close_brace ∷ [];
      gives = open_brace ∷ name ∷ of' ∷ open_brace ∷ close_brace ∷ semicolon ∷ name ∷ equals ∷ number ∷ close_brace ∷ [];
    }

-- `a of` gives `{ a of { } }`
abbrev pub keyword_last : Example
keyword_last =
    record {
      pieces =
          ((open_brace ∷ []) ▸ first name 1 1 0 1) ∷
          plain (later of' 1 3 2 2) ∷
          [];
      refusals = [];
      end = place 1 5;
      inserts = open_brace ∷ close_brace ∷ close_brace ∷ [];
      gives = open_brace ∷ name ∷ of' ∷ open_brace ∷ close_brace ∷ close_brace ∷ [];
    }

-- `{ a of` is refused as left open (14) at its end, in an explicit block
abbrev pub left_open : List Event
left_open =
    begun ∷
    fed (plain (first open_brace 1 1 0 1)) ∷
    fed (plain (later name 1 3 2 1)) ∷
    fed (plain (later of' 1 5 4 2)) ∷
    not_ended (place 1 7) BlockOpen 0 ∷
    []

-- `a = ( do b = 1 )` gives `{ a = ( do { b = 1 } ) }`
abbrev pub in_parentheses : Example
in_parentheses =
    record {
      pieces =
          ((open_brace ∷ []) ▸ first name 1 1 0 1) ∷
          plain (later equals 1 3 2 1) ∷
          plain (later open_paren 1 5 4 1) ∷
          plain (later do' 1 7 6 2) ∷
          ((open_brace ∷ []) ▸ later name 1 10 9 1) ∷
          plain (later equals 1 12 11 1) ∷
          plain (later number 1 14 13 1) ∷
          ((close_brace ∷ []) ▸ later close_paren 1 16 15 1) ∷
          [];
      refusals = [];
      end = place 1 17;
      inserts = close_brace ∷ [];
      gives = open_brace ∷ name ∷ equals ∷ open_paren ∷ do' ∷ open_brace ∷ name ∷ equals ∷ number ∷ close_brace ∷ close_paren ∷ close_brace ∷ [];
    }

-- all eight hold
pub record Examples : Type 0 where
  pub empty_sheet : Finished nothing
  pub nested_blocks : Finished nested
  pub refused_parenthesis : Finished stray_parenthesis
  pub shallower_than_the_first : Happens shallower
  pub empty_block_then_line : Finished no_deeper
  pub keyword_at_the_end : Finished keyword_last
  pub explicit_block_left_open : Happens left_open
  pub closed_by_a_parenthesis : Finished in_parentheses
