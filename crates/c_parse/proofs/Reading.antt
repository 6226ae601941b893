-- The words of a text, one after another, and the place of the first fault.
use Rattle.std.proofs.Common.{◌≡◌, ◌≢◌, ◌<◌, ◌≤◌, ◌+◌, ℕ, zero, suc, List, [], ◌∷◌, ◌++◌, length, take, drop, get_or, reverse, inl, inr, refl, sym, ap, subst, ◌∙◌, arith}
use Rattle.std.proofs.lemmas.List.{get_or-map, length-map, take-append-drop, reverse-reverse}
use Rattle.std.proofs.lemmas.Bool.{cases_lt}
use Rattle.std.proofs.lemmas.List.Elements.{All-take, All-drop}
use Rattle.std.proofs.lemmas.Option.{slice_get_read}
use Rattle.base_io.specs.declared.place.Place.{Place}
use Rattle.c_lex.specs.declared.token.Token.{Token}
use Rattle.c_parse.specs.declared.fault.ParseFault.{ParseFault}
use Rattle.c_parse.specs.declared.fault.ParseFault.TheVariants.{Unexpected, NotInProfile, TooDeep, Memory}
use Rattle.c_parse.specs.declared.form.Wait.{Wait}
use Rattle.c_parse.specs.declared.raw.Raw.{Raw}
use Rattle.c_parse.specs.Grammar.{Parses, Nested, bare, IsShallow, IsFit, IsText, IsReal, IsTooDeep, one_operator_more, Begins, word_at}
use Rattle.c_parse.specs.Faults.{IsTreeOf, IsAt, IsDeepAt, IsUnexpectedAt, at_token, at_end, IsOutsideAt, left_out_token, IsTooDeepAt, deep_token, IsCause, IsFlat}
use Rattle.c_parse.specs.Steps.{Stands, Passes_over, Refuses, RefusesAt}
use Rattle.c_parse.specs.Words.{Word, word_of, words_of, Genuine}
use Rattle.c_parse.proofs.Fronts.{bare_take, words_take}
use Rattle.c_parse.proofs.Spellings.{word_genuine}
use Rattle.c_parse.proofs.TooDeep.{deep_refusal, flat_refusal}
use Rattle.c_parse.proofs.Whole.{stands_next, next_front, stands_on, first_fault, is_fit, begins_so, Parting, part, shallow_text, Whole}
use Rattle.c_parse.specs.declared.tally.Last.TheVariants.{Other}
use Rattle.c_parse.specs.declared.tally.Tally.{Tally}
use Rattle.c_parse.specs.Tally.{outside, counted, tally_of, operator_count, IsSparse}
use Rattle.c_parse.proofs.Sparse.{few_in, few_whole, sparse_fit, sparse_whole, over_in}
use Rattle.c_parse.proofs.Tallies.{tally_last, sparse_on, sparse_take, sparse_here}

-- Where the tally has one operator too many, so has a text that begins so.
over_deep : (front : List Word) (word : Word) (c : List Wait) (vs : List (List Raw)) → Stands (front ++ word ∷ []) c vs → IsSparse front → 1000 < operator_count (front ++ word ∷ []) → IsTooDeep front word
over_deep front word c vs s sparse many =
    let p : Parting s.text front word = part front word s.text s.are in
    let b : Begins (p.before ++ p.last ∷ []) = subst Begins p.is (begins_so s.text c vs s.moves) in
    let same : front ++ word ∷ [] ≡ bare p.before ++ word_at p.last ∷ [] = ap (λ t. t ++ word ∷ []) p.are ∙ ap (λ w. bare p.before ++ w ∷ []) (sym p.word_is) in
    let P : List Word → Type 0 = λ t. 1000 < operator_count t in
    one_operator_more p.before p.last b (sym p.are) p.word_is (over_in p.before p.last b (subst IsSparse p.are sparse) (subst P same many))

module _ (text : List ℕ) (tokens : List Token) (i : ℕ) (token : Token) (within : i < length tokens) (is : token ≡ get_or tokens i token) where
  word_within : i < length (words_of text tokens)
  word_within = rw (length-map tokens (word_of text)) within

  word_is : get_or (words_of text tokens) i (word_of text token) ≡ word_of text token
  word_is = get_or-map (word_of text) tokens i token (word_of text token) within ∙ ap (word_of text) (sym is)

  pub reads_on : (c : List Wait) (vs : List (List Raw)) (c2 : List Wait) (vs2 : List (List Raw)) → Stands (take i (words_of text tokens)) c vs → Passes_over (word_of text token) c vs c2 vs2
      → Stands (take (i + 1) (words_of text tokens)) c2 vs2
  reads_on c vs c2 vs2 stands over = stands_next (words_of text tokens) i (word_of text token) (word_of text token) c vs c2 vs2 word_within word_is stands over

  stands_at : (c : List Wait) (vs : List (List Raw)) → Stands (take i (words_of text tokens)) c vs → IsSparse (take i (words_of text tokens)) → Refuses (word_of text token) c vs → IsAt text tokens i token token.place
  stands_at c vs stands sparse refuses = record {
    first = first_fault (words_of text tokens) i (word_of text token) (word_of text token) c vs word_within word_is stands sparse refuses;
    token_is = slice_get_read tokens (length tokens) i token refl within is;
    place_is = refl;
  }

  flat_cause : (fault : ParseFault) → IsAt text tokens i token token.place → (IsDeepAt text tokens i token → ⊥) → IsFlat (take i (words_of text tokens)) (word_of text token).class token.place fault → IsCause text tokens fault
  flat_cause (Unexpected at) here flat so = at_token i token (subst (IsAt text tokens i token) (sym so.0) here) flat so.1
  flat_cause (NotInProfile at) here flat so = left_out_token i token (subst (IsAt text tokens i token) (sym so.0) here) flat so.1
  flat_cause (TooDeep at) here flat so = absurd so
  flat_cause Memory here flat so = so

  pub stops_at : (c : List Wait) (vs : List (List Raw)) (depth : ℕ) (fault : ParseFault) → Stands (take i (words_of text tokens)) c vs → IsSparse (take i (words_of text tokens)) → RefusesAt depth (word_of text token) c vs
      → (64 < depth → fault ≡ TooDeep token.place) → (depth ≤ 64 → IsFlat (words_of text (take i tokens)) (word_of text token).class token.place fault) → IsCause text tokens fault
  stops_at c vs depth fault stands sparse (r, lies) deep flat = elim (cases_lt 64 depth) [
    | inl more ↦ subst (IsCause text tokens) (sym (deep more)) (deep_token i token (stands_at c vs stands sparse r) (deep_refusal (take i (words_of text tokens)) (word_of text token) c vs stands r (omega (arith, lies, more))))
    | inr le ↦ flat_cause fault (stands_at c vs stands sparse r) (flat_refusal (take i (words_of text tokens)) (word_of text token) c vs stands r (omega (arith, lies, le)))
        (subst (λ ws. IsFlat ws (word_of text token).class token.place fault) (words_take text tokens i) (flat le))
  ]

  word_last : take (i + 1) (words_of text tokens) ≡ take i (words_of text tokens) ++ word_of text token ∷ []
  word_last = next_front (words_of text tokens) i (word_of text token) word_within ∙ ap (λ k. take i (words_of text tokens) ++ k ∷ []) word_is

  -- One more word is counted.
  pub counts_on : (tally next : Tally) → tally ≡ tally_of (outside Other) (take i (words_of text tokens)) → next ≡ counted tally (word_of text token).class → next ≡ tally_of (outside Other) (take (i + 1) (words_of text tokens))
  counts_on tally next is e =
      e ∙ ap (λ t. counted t (word_of text token).class) is ∙ sym (tally_last (outside Other) (take i (words_of text tokens)) (word_of text token)) ∙ ap (tally_of (outside Other)) (sym word_last)

  pub sparse_next : IsSparse (take i (words_of text tokens)) → operator_count (take (i + 1) (words_of text tokens)) ≤ 1000 → IsSparse (take (i + 1) (words_of text tokens))
  sparse_next sparse le =
      let P : List Word → Type 0 = λ t. operator_count t ≤ 1000 in
      subst IsSparse (sym word_last) (sparse_on (take i (words_of text tokens)) (word_of text token) sparse (subst P word_last le))

  -- The word is read, and is one operator too many.
  pub one_over : (c : List Wait) (vs : List (List Raw)) (c2 : List Wait) (vs2 : List (List Raw)) → Stands (take i (words_of text tokens)) c vs → IsSparse (take i (words_of text tokens)) → Passes_over (word_of text token) c vs c2 vs2
      → 1000 < operator_count (take (i + 1) (words_of text tokens)) → IsCause text tokens (TooDeep token.place)
  one_over c vs c2 vs2 stands sparse over many =
      let P : List Word → Type 0 = λ t. 1000 < operator_count t in
      deep_token i token
      (record {
        first = record {
          within = word_within;
          before = is_fit (take i (words_of text tokens)) c vs stands sparse;
          stops = λ was. let few : operator_count (take (i + 1) (words_of text tokens)) ≤ 1000 = sparse_here _ (sparse_fit _ was) in absurd (omega arith);
        };
        token_is = slice_get_read tokens (length tokens) i token refl within is;
        place_is = refl;
      })
      (over_deep (take i (words_of text tokens)) (word_of text token) c2 vs2 (stands_on (take i (words_of text tokens)) (word_of text token) c vs c2 vs2 stands over) sparse (subst P word_last many))

pub all_real : (source : List ℕ) (text : List Nested) (tokens : List Token) → bare text ≡ words_of source tokens → (k : ℕ) (d : Nested) → k < length text → IsReal (get_or text k d)
all_real source [] tokens e k d lt = absurd (omega (arith, lt))
all_real source (n ∷ ns) [] e k d lt = cc
all_real source (n ∷ ns) (t ∷ ts) e zero d lt = let same : word_of source t ≡ word_at n = cc in subst Genuine same (word_genuine source t)
all_real source (n ∷ ns) (t ∷ ts) e (suc k) d lt = let rest : bare ns ≡ words_of source ts = cc in all_real source ns ts rest k d (omega (arith, lt))

-- A text in which nothing is nested too deep begins with tokens of which none is.
fits_with : (text : List ℕ) (tokens : List Token) (i : ℕ) (raw : Raw) → IsTreeOf (words_of text tokens) raw → IsFit (take i (words_of text tokens))
fits_with text tokens i raw t =
    let P : List Nested → Type 0 = λ x. IsText x raw in
    let b : Begins (take i t.text) = record {
      more = drop i t.text;
      real = All-drop IsReal i t.text (all_real text t.text tokens t.are);
      raw = raw;
      text = subst P (sym (take-append-drop i t.text)) t.derives;
    } in
    let are : bare (take i t.text) ≡ take i (words_of text tokens) = bare_take i t.text ∙ ap (take i) t.are in
    record {
      front = take i t.text;
      are = are;
      shallow = All-take IsShallow i t.text t.shallow;
      begins = b;
      few = few_in (take i t.text) b (take i (words_of text tokens)) are (sparse_take (words_of text tokens) i (sparse_whole t.text raw t.derives (words_of text tokens) t.are t.few));
    }

-- Where there is a fault, there is no tree.
faulty_at : (text : List ℕ) (tokens : List Token) (i : ℕ) (token : Token) (place : Place) → IsAt text tokens i token place → (raw : Raw) → IsTreeOf (words_of text tokens) raw → ⊥
faulty_at text tokens i token place here raw tree = here.first.stops (fits_with text tokens (i + 1) raw tree)

faulty : (text : List ℕ) (tokens : List Token) (place : Place) → IsUnexpectedAt text tokens place → (raw : Raw) → IsTreeOf (words_of text tokens) raw → ⊥
faulty text tokens place (at_token i token here flat kept) raw tree = faulty_at text tokens i token place here raw tree
faulty text tokens place (at_end ends same) raw tree = ends.not_whole raw (record { text = tree.text; are = tree.are; derives = tree.derives })

outside_faulty : (text : List ℕ) (tokens : List Token) (place : Place) → IsOutsideAt text tokens place → (raw : Raw) → IsTreeOf (words_of text tokens) raw → ⊥
outside_faulty text tokens place (left_out_token i token here flat out) raw tree = faulty_at text tokens i token place here raw tree

deep_faulty : (text : List ℕ) (tokens : List Token) (place : Place) → IsTooDeepAt text tokens place → (raw : Raw) → IsTreeOf (words_of text tokens) raw → ⊥
deep_faulty text tokens place (deep_token i token here deep) raw tree = faulty_at text tokens i token place here raw tree

pub treeless : (text : List ℕ) (tokens : List Token) (fault : ParseFault) → IsCause text tokens fault → fault ≢ Memory → (raw : Raw) → IsTreeOf (words_of text tokens) raw → ⊥
treeless text tokens (Unexpected at) cause other raw tree = faulty text tokens at cause raw tree
treeless text tokens (TooDeep at) cause other raw tree = deep_faulty text tokens at cause raw tree
treeless text tokens (NotInProfile at) cause other raw tree = outside_faulty text tokens at cause raw tree
treeless text tokens Memory cause other raw tree = other refl

-- a list that is reversed has one element
pub one_left : (vs : List (List Raw)) (raw : Raw) → reverse vs ≡ (raw ∷ []) ∷ [] → vs ≡ (raw ∷ []) ∷ []
one_left vs raw e = sym (reverse-reverse vs) ∙ ap (λ x. reverse x) e

-- The tree that is left is the one.
pub tree_is : (words : List Word) (builds : List (List Raw)) (raw : Raw) → Whole words (reverse builds) → builds ≡ (raw ∷ []) ∷ [] → Parses words raw
tree_is words builds raw whole e =
    let lists : (whole.raw ∷ []) ∷ [] ≡ (raw ∷ []) ∷ [] = sym (one_left builds whole.raw whole.builds) ∙ e in
    let same : whole.raw ≡ raw = cc in
    subst (Parses words) same whole.derives

pub shallow_tree : (words : List Word) (raw : Raw) → Parses words raw → IsFit words → IsTreeOf words raw
shallow_tree words raw p fit = record { text = p.text; are = p.are; shallow = shallow_text words raw p fit; derives = p.derives; few = few_whole p.text raw p.derives words p.are (sparse_fit words fit) }
