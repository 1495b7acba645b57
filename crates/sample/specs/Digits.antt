-- What a byte stands for in a number in base 16. Assumes nothing.
use Rattle.std.specs.Prelude.{ℕ, ◌+◌, ◌-◌, nat_le, cond, ◌&&◌}

-- the value of a digit, '0' to '9' or 'a' to 'f', and 0 of any other byte
abbrev pub digit_of : ℕ → ℕ
digit_of byte =
    cond (nat_le 48 byte && nat_le byte 57) (byte - 48) (cond (nat_le 97 byte && nat_le byte 102) (byte - 97 + 10) 0)
