-- to believe: sums of bytes, and of replies
use Rattle.std.specs.Prelude.{ℕ, ◌*◌, ◌%◌, ◌^◌, List, bit_xor}
use Rattle.std.specs.List.{fold}
use Rattle.serde_json.specs.Written.{compact_text}
use Rattle.casa_flight.specs.declared.reply.Reply.{Reply}
use Rattle.casa_wire.specs.LineTexts.{reply_data}

-- a byte is taken in: by exclusive or, and then by a product, of which 32 bits stay
abbrev pub with_byte : ℕ → ℕ → ℕ
with_byte sum byte = bit_xor sum byte * 16777619 % 2 ^ 32

-- the sum of bytes, with 32 bits: FNV-1a, whose two numbers these are
abbrev pub sum_of : List ℕ → ℕ
sum_of bytes = fold with_byte 2166136261 bytes

-- the sum of a reply: of the bytes of its line, its line end left out
abbrev pub reply_sum : Reply → ℕ → ℕ
reply_sum reply position = sum_of (compact_text (reply_data reply position))
