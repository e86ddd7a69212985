-- Laws of writing a term by its last symbol. Assumes nothing.
use Prim.Native.Nat.{ℕ, ◌+◌, ◌-◌, ◌≤◌, ◌<◌}
use mathlib.Core.Path.{◌≡◌, sym, ap, ◌∙◌}
use mathlib.Core.List.{List, ◌++◌, append_assoc}
use native.Mathlib.Omega.{arith}
use lib.ListN.{length, get_or, drop, length-append}
use Rattle.calculus.specs.Bytes.{bytes}
use Rattle.grammar.specs.Expression.{Expression}
use Rattle.grammar.specs.Meaning.{term_of}
use Rattle.grammar.specs.Postfix.{postfix, lead}
use Rattle.encoder.specs.Code.{Laid, EncodeAt, EncodeGives}
use Rattle.encoder.proofs.Storing.{kept_less}
use Rattle.symbols.proofs.Symbols.{symbol, is_symbol, has_symbol, Binary, binary, Unary, unary, Atom, atom, right_stands, left_stands, left_less, only_stands, atom_begins}

-- writing
module _ (e : Expression) (xs post : List ℕ) (p : ℕ) (out : List ℕ) (o : ℕ) (q : EncodeAt e xs post p out o) where
  pub the_symbol : get_or post (p - 1) 0 ≡ symbol e
  the_symbol = is_symbol e xs post p q.stands q.within

  pub the_place : 0 < p
  the_place = has_symbol e xs post p q.stands q.within

  module _ (k : get_or post (p - 1) 0 < 4) where
    pub two_parts : Binary e
    two_parts = binary e (omega (arith, the_symbol))

    sizes : length (bytes (term_of e)) ≡ length (lead (symbol e)) + (length (bytes (term_of two_parts.f)) + length (bytes (term_of two_parts.a)))
    sizes =
        omega (arith, ap length two_parts.code, length-append (lead (symbol e)) (bytes (term_of two_parts.f) ++ bytes (term_of two_parts.a)), length-append (bytes (term_of two_parts.f)) (bytes (term_of two_parts.a)))

    pub right_at : EncodeAt two_parts.a (xs ++ postfix two_parts.f) post (p - 1) out o
    right_at = record {
      stands = right_stands e xs post p q.stands q.within two_parts;
      within = omega (arith, q.within);
      room = omega (arith, q.room, sizes);
      inside = q.inside;
      small = (two_parts.small q.small).1;
    }

    module _ (from at : ℕ) (m : List ℕ) (l : length m ≡ length out) (g : EncodeGives two_parts.a (xs ++ postfix two_parts.f) out o from at m) where
      pub left_at : EncodeAt two_parts.f xs post from m at
      left_at = record {
        stands = left_stands e xs post p q.stands q.within two_parts from g.begins;
        within = omega (arith, q.within, left_less e xs post p q.stands q.within two_parts from g.begins);
        room = omega (arith, q.room, sizes, g.laid.ends);
        inside = omega (arith, q.inside, g.laid.ends);
        small = (two_parts.small q.small).0;
      }

      pub left_before : from < p
      left_before = left_less e xs post p q.stands q.within two_parts from g.begins

      module _ (from' at' : ℕ) (n : List ℕ) (l' : length n ≡ length m) (g' : EncodeGives two_parts.f xs m at from' at' n) where
        pub lead_asks : (length (lead (get_or post (p - 1) 0)) ≤ at') × (at' ≤ length n) × (get_or post (p - 1) 0 < 263)
        lead_asks = (rw the_symbol (omega (arith, q.room, sizes, g.laid.ends, g'.laid.ends)), omega (arith, q.inside, g.laid.ends, g'.laid.ends), omega arith)

        pub two_written : (r : ℕ) (z : List ℕ) → Laid n at' (lead (get_or post (p - 1) 0)) r z → EncodeGives e xs out o from' r z
        two_written r z d =
            let d' : Laid n at' (lead (symbol e)) r z = rw the_symbol at d in
            record {
              begins = g'.begins;
              laid = record {
                ends = omega (arith, d'.ends, sizes, g.laid.ends, g'.laid.ends);
                stored =
                    d'.stored ∙ ap (λ (x : List ℕ). lead (symbol e) ++ x) (g'.laid.stored ∙ ap (λ (x : List ℕ). bytes (term_of two_parts.f) ++ x) g.laid.stored ∙ sym (append_assoc (bytes (term_of two_parts.f)) (bytes (term_of two_parts.a)) (drop o out)))
                    ∙ sym (append_assoc (lead (symbol e)) (bytes (term_of two_parts.f) ++ bytes (term_of two_parts.a)) (drop o out))
                    ∙ ap (λ (x : List ℕ). x ++ drop o out) (sym two_parts.code);
                kept =
                    d'.kept ∙ kept_less r at' n m (omega (arith, d'.ends)) g'.laid.kept
                    ∙ kept_less r at m out (omega (arith, d'.ends, g'.laid.ends)) g.laid.kept;
              };
            }

  module _ (k : 4 ≤ get_or post (p - 1) 0) (j : get_or post (p - 1) 0 < 6) where
    pub one_part : Unary e
    one_part = unary e (omega (arith, the_symbol)) (omega (arith, the_symbol))

    size_one : length (bytes (term_of e)) ≡ length (lead (symbol e)) + length (bytes (term_of one_part.a))
    size_one = omega (arith, ap length one_part.code, length-append (lead (symbol e)) (bytes (term_of one_part.a)))

    pub only_at : EncodeAt one_part.a xs post (p - 1) out o
    only_at = record {
      stands = only_stands e xs post p q.stands q.within one_part;
      within = omega (arith, q.within);
      room = omega (arith, q.room, size_one);
      inside = q.inside;
      small = one_part.small q.small;
    }

    module _ (from at : ℕ) (m : List ℕ) (l : length m ≡ length out) (g : EncodeGives one_part.a xs out o from at m) where
      pub lead_asks_one : (length (lead (get_or post (p - 1) 0)) ≤ at) × (at ≤ length m) × (get_or post (p - 1) 0 < 263)
      lead_asks_one = (rw the_symbol (omega (arith, q.room, size_one, g.laid.ends)), omega (arith, q.inside, g.laid.ends), omega arith)

      pub one_written : (r : ℕ) (z : List ℕ) → Laid m at (lead (get_or post (p - 1) 0)) r z → EncodeGives e xs out o from r z
      one_written r z d =
          let d' : Laid m at (lead (symbol e)) r z = rw the_symbol at d in
          record {
            begins = g.begins;
            laid = record {
              ends = omega (arith, d'.ends, size_one, g.laid.ends);
              stored =
                  d'.stored ∙ ap (λ (x : List ℕ). lead (symbol e) ++ x) g.laid.stored
                  ∙ sym (append_assoc (lead (symbol e)) (bytes (term_of one_part.a)) (drop o out))
                  ∙ ap (λ (x : List ℕ). x ++ drop o out) (sym one_part.code);
              kept = d'.kept ∙ kept_less r at m out (omega (arith, d'.ends)) g.laid.kept;
            };
          }

  module _ (k : 6 ≤ get_or post (p - 1) 0) where
    no_part : Atom e
    no_part = atom e (omega (arith, the_symbol))

    pub lead_asks_none : (length (lead (get_or post (p - 1) 0)) ≤ o) × (o ≤ length out) × (get_or post (p - 1) 0 < 263)
    lead_asks_none = (rw the_symbol (omega (arith, q.room, ap length no_part.code)), q.inside, omega (arith, no_part.few q.small, the_symbol))

    pub none_written : (r : ℕ) (z : List ℕ) → Laid out o (lead (get_or post (p - 1) 0)) r z → EncodeGives e xs out o (p - 1) r z
    none_written r z d =
        let d' : Laid out o (lead (symbol e)) r z = rw the_symbol at d in
        record { begins = atom_begins e xs post p q.stands q.within no_part; laid = rw no_part.code d' }
