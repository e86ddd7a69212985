-- Packets and what the reader gives of them, as one computed table: the paper's packet, and one for each way of being none. Assumes nothing.
use Prim.Native.Nat.{ℕ}
use mathlib.Core.Path.{◌≡◌, refl}
use mathlib.Core.List.{List, [], ◌∷◌, ◌++◌, map}
use mathlib.Core.Option.{Option, none, some}
use lib.ListN.{replicate}
use Rattle.fields.specs.Packet.{before, fields, Packet, high_first, with_argument, after_limit, after_arguments, after_rule, from_fields, packet}

-- a packet's bytes, and the packet, or none for 6
pub record Row : Type 0 where
  pub input : List ℕ
  pub outcome : Option Packet

-- the rule 02 03 00 as a field, the argument 0, eight of them, and the greatest limit
abbrev rule_field : List ℕ
rule_field = 0x01 ∷ 0x00 ∷ 0x03 ∷ 0x02 ∷ 0x03 ∷ 0x00 ∷ []

abbrev argument : List ℕ
argument = 0x02 ∷ 0x00 ∷ 0x01 ∷ 0x30 ∷ []

abbrev eight : List ℕ
eight = argument ++ argument ++ argument ++ argument ++ argument ++ argument ++ argument ++ argument

abbrev greatest : List ℕ
greatest = 0x03 ∷ 0x00 ∷ 0x04 ∷ 0x00 ∷ 0x0F ∷ 0x42 ∷ 0x40 ∷ []

abbrev accepted : List (List ℕ) → ℕ → Option Packet
accepted vs n = some (record { rule = 0x02 ∷ 0x03 ∷ 0x00 ∷ []; arguments = vs; limit = n; label = none })

-- the label's text 10 as a field, and the packet with it
abbrev label : List ℕ
label = 0x04 ∷ 0x00 ∷ 0x02 ∷ 0x31 ∷ 0x30 ∷ []

abbrev carrying : List (List ℕ) → ℕ → Option Packet
carrying vs n = some (record { rule = 0x02 ∷ 0x03 ∷ 0x00 ∷ []; arguments = vs; limit = n; label = some (0x31 ∷ 0x30 ∷ []) })

abbrev zero_text : List ℕ
zero_text = 0x30 ∷ []

abbrev refused : List ℕ → Row
refused l = record { input = l; outcome = none }

pub rows : List Row
rows =
    -- "Standard input in hexadecimal 01 0006 020103000300 02 0001 30"; "Without tag 3 the limit becomes 100,000." ([2])
    record {
      input = 0x01 ∷ 0x00 ∷ 0x06 ∷ 0x02 ∷ 0x01 ∷ 0x03 ∷ 0x00 ∷ 0x03 ∷ 0x00 ∷ 0x02 ∷ 0x00 ∷ 0x01 ∷ 0x30 ∷ [];
      outcome = some (record { rule = 0x02 ∷ 0x01 ∷ 0x03 ∷ 0x00 ∷ 0x03 ∷ 0x00 ∷ []; arguments = zero_text ∷ []; limit = 100000; label = none });
    }
    -- "then none to eight of tag 2": none
    ∷ record { input = rule_field; outcome = accepted [] 100000 }
    -- eight
    ∷ record {
      input = rule_field ++ eight;
      outcome = accepted (zero_text ∷ zero_text ∷ zero_text ∷ zero_text ∷ zero_text ∷ zero_text ∷ zero_text ∷ zero_text ∷ []) 100000;
    }
    -- "nine arguments are 6"
    ∷ refused (rule_field ++ eight ++ argument)
    -- "tag 3, four bytes, high first, the step limit, at most 1,000,000", after the arguments 0 and 10
    ∷ record {
      input = rule_field ++ argument ++ (0x02 ∷ 0x00 ∷ 0x02 ∷ 0x31 ∷ 0x30 ∷ []) ++ greatest;
      outcome = accepted (zero_text ∷ (0x31 ∷ 0x30 ∷ []) ∷ []) 1000000;
    }
    -- "it now sends tag 3 with 10,000" ([2])
    ∷ record {
      input = rule_field ++ argument ++ (0x03 ∷ 0x00 ∷ 0x04 ∷ 0x00 ∷ 0x00 ∷ 0x27 ∷ 0x10 ∷ []);
      outcome = accepted (zero_text ∷ []) 10000;
    }
    -- 1,000,001
    ∷ refused (rule_field ++ argument ++ (0x03 ∷ 0x00 ∷ 0x04 ∷ 0x00 ∷ 0x0F ∷ 0x42 ∷ 0x41 ∷ []))
    -- three bytes
    ∷ refused (rule_field ++ argument ++ (0x03 ∷ 0x00 ∷ 0x03 ∷ 0x0F ∷ 0x42 ∷ 0x40 ∷ []))
    -- a limit before an argument
    ∷ refused (rule_field ++ greatest ++ argument)
    -- "at most one tag 3": two
    ∷ refused (rule_field ++ greatest ++ greatest)
    -- two rules
    ∷ refused (rule_field ++ rule_field)
    -- "First tag 1": an argument first, and nothing at all
    ∷ refused argument
    ∷ refused []
    -- a field cut short, in its value and in its length
    ∷ refused (0x01 ∷ 0x00 ∷ 0x03 ∷ 0x02 ∷ 0x03 ∷ [])
    ∷ refused (0x01 ∷ 0x00 ∷ [])
    -- a byte after the last field
    ∷ refused (rule_field ++ (0x00 ∷ []))
    -- tag 5
    ∷ refused (rule_field ++ (0x05 ∷ 0x00 ∷ 0x04 ∷ 0x00 ∷ 0x0F ∷ 0x42 ∷ 0x40 ∷ []))
    -- "A packet may end with one field of tag 4, a label's text." ([1]): after the rule, after an argument, after a limit; the text is not read here
    ∷ record { input = rule_field ++ label; outcome = carrying [] 100000 }
    ∷ record { input = rule_field ++ argument ++ label; outcome = carrying (zero_text ∷ []) 100000 }
    ∷ record { input = rule_field ++ argument ++ greatest ++ label; outcome = carrying (zero_text ∷ []) 1000000 }
    -- a label before the limit, before an argument, twice, before a byte
    ∷ refused (rule_field ++ argument ++ label ++ greatest)
    ∷ refused (rule_field ++ label ++ argument)
    ∷ refused (rule_field ++ argument ++ label ++ label)
    ∷ refused (rule_field ++ label ++ (0x00 ∷ []))
    -- 16,384 bytes, and "more than 16,384 bytes, is 6": a rule of 16,381 bytes (high byte 3F, low byte FD), and one of 16,382
    ∷ record {
      input = 0x01 ∷ 0x3F ∷ 0xFD ∷ replicate 16381 0;
      outcome = some (record { rule = replicate 16381 0; arguments = []; limit = 100000; label = none });
    }
    ∷ refused (0x01 ∷ 0x3F ∷ 0xFE ∷ replicate 16382 0)
    ∷ []

-- "Anything else, or more than 16,384 bytes, is 6." (The packet) What is read of each row's input is its outcome.
pub vectors : map (λ (r : Row). packet r.input) rows ≡ map (λ (r : Row). r.outcome) rows
unfolding rows before fields high_first with_argument after_limit after_arguments after_rule from_fields packet
vectors = refl
