-- What each character is to the grammar of expressions (Workflow Definition Language, "Expressions").
-- Letters and digits are those of ASCII; white space is space, tab, carriage return and line feed.
use Rattle.std.specs.Prelude.{ℕ, Bool, nat_le, nat_eq, ◌&&◌, ◌||◌, if◌then◌else◌}
use Rattle.wf_expr.specs.declared.kind.Kind.{Kind}
use Rattle.wf_expr.specs.declared.kind.Kind.TheVariants.{Blank, Digit, Letter, Quote, Open, Close, Bracket, Unbracket, Comma, Dot, Soft, Under, Dollar, Minus, At, Brace, Unbrace, Other}

abbrev pub is_blank : ℕ → Bool
is_blank c = nat_eq c 32 || nat_eq c 9 || nat_eq c 13 || nat_eq c 10

abbrev pub is_digit : ℕ → Bool
is_digit c = nat_le 48 c && nat_le c 57

abbrev pub is_letter : ℕ → Bool
is_letter c = (nat_le 97 c && nat_le c 122) || (nat_le 65 c && nat_le c 90)

-- ' ( ) [ ] , . ? _ $ - @ { } in this order
unfoldable pub kind : ℕ → Kind
kind c =
    if is_blank c then Blank else if is_digit c then Digit else if is_letter c then Letter
    else if nat_eq c 39 then Quote else if nat_eq c 40 then Open else if nat_eq c 41 then Close
    else if nat_eq c 91 then Bracket else if nat_eq c 93 then Unbracket else if nat_eq c 44 then Comma
    else if nat_eq c 46 then Dot else if nat_eq c 63 then Soft
    else if nat_eq c 95 then Under else if nat_eq c 36 then Dollar else if nat_eq c 45 then Minus
    else if nat_eq c 64 then At else if nat_eq c 123 then Brace else if nat_eq c 125 then Unbrace else Other
