-- The machine that reads COPY reads its spelling.
use Rattle.std.proofs.Common.{◌≡◌, ℕ, ◌==◌, true, false, List, [], ◌∷◌, ◌++◌, Option, Some, None, refl, sym, ap, subst, ◌∙◌, append_assoc, arith, inl, inr}
use Rattle.std.proofs.lemmas.Bool.{eqb-true, ne_eqb}
use Rattle.std.proofs.lemmas.Bool.Decides.{nat_tests}
use Rattle.std.proofs.lemmas.List.{append-nil}
use Rattle.std.specs.Prelude.{◌≢◌, ◌⊎◌}
use Rattle.desk_ops.specs.declared.op.Style.{Style}
use Rattle.desk_ops.specs.declared.op.Symbol.{Symbol}
use Rattle.script_answers.specs.declared.copy.Place.{Place}
use Rattle.script_answers.specs.declared.copy.Place.TheVariants.{Run, Quote, Opened, Inside, Escape, Closed}
use Rattle.script_answers.specs.Copy.{symbol, style_of, escaped, step, copy_from}
use Rattle.script_answers.specs.Spelling.{StandsFor, SpellsInside, IsRun, RunOf, joined, AreRuns, IsCopy}
use Rattle.desk_ops.proofs.Stamps.{by_cases}
use Rattle.script_answers.proofs.Again.{onto, nothing, itself, itself_first}

pub is_not : (c d : ℕ) → (c == d) ≡ false → c ≢ d
is_not c d e = grind (arith, nat_tests)

-- ---- how the machine goes on

run_on : (c : ℕ) (cs : List ℕ) (style : Style) → style_of c ≡ Some style → copy_from Run (c ∷ cs) ≡ copy_from (Quote style) cs
unfolding step
run_on c cs style e = rw e (nothing _)

run_not : (c : ℕ) (cs : List ℕ) → style_of c ≡ None → copy_from Run (c ∷ cs) ≡ None
unfolding step
run_not c cs e = rw e refl

quote_on : (style : Style) (c : ℕ) (cs : List ℕ) → (c == 34) ≡ true → copy_from (Quote style) (c ∷ cs) ≡ copy_from (Opened style) cs
unfolding step
quote_on style c cs e = rw e (nothing _)

quote_not : (style : Style) (c : ℕ) (cs : List ℕ) → (c == 34) ≡ false → copy_from (Quote style) (c ∷ cs) ≡ None
unfolding step
quote_not style c cs e = rw e refl

opened_not : (style : Style) (c : ℕ) (cs : List ℕ) → (c == 34) ≡ true → copy_from (Opened style) (c ∷ cs) ≡ None
unfolding step
opened_not style c cs e = rw e refl

opened_escape : (style : Style) (c : ℕ) (cs : List ℕ) → (c == 34) ≡ false → (c == 92) ≡ true → copy_from (Opened style) (c ∷ cs) ≡ copy_from (Escape style) cs
unfolding step
opened_escape style c cs p q = rw (p, q) (nothing _)

inside_escape : (style : Style) (c : ℕ) (cs : List ℕ) → (c == 34) ≡ false → (c == 92) ≡ true → copy_from (Inside style) (c ∷ cs) ≡ copy_from (Escape style) cs
unfolding step
inside_escape style c cs p q = rw (p, q) (nothing _)

inside_close : (style : Style) (c : ℕ) (cs : List ℕ) → (c == 34) ≡ true → copy_from (Inside style) (c ∷ cs) ≡ copy_from Closed cs
unfolding step
inside_close style c cs e = rw e (nothing _)

escape_on : (style : Style) (c ch : ℕ) (cs : List ℕ) → escaped c ≡ Some ch → copy_from (Escape style) (c ∷ cs) ≡ onto style ch (copy_from (Inside style) cs)
unfolding step
escape_on style c ch cs e = rw e refl

escape_not : (style : Style) (c : ℕ) (cs : List ℕ) → escaped c ≡ None → copy_from (Escape style) (c ∷ cs) ≡ None
unfolding step
escape_not style c cs e = rw e refl

closed_on : (c : ℕ) (cs : List ℕ) → (c == 32) ≡ true → copy_from Closed (c ∷ cs) ≡ copy_from Run cs
unfolding step
closed_on c cs e = rw e (nothing _)

closed_not : (c : ℕ) (cs : List ℕ) → (c == 32) ≡ false → copy_from Closed (c ∷ cs) ≡ None
unfolding step
closed_not c cs e = rw e refl

no : {G : Type 0} (read : Option (List Symbol)) (ys : List Symbol) → read ≡ None → read ≡ Some ys → G
no read ys e h = absurd (let f : None ≡ Some ys = sym e ∙ h in cc)

-- a symbol that was read before the others
onto_some : (style : Style) (c : ℕ) (read : Option (List Symbol)) (ys : List Symbol) → onto style c read ≡ Some ys → (more : List Symbol) × (read ≡ Some more) × (ys ≡ symbol style c ∷ more)
onto_some style c None ys h = absurd (let f : None ≡ Some ys = h in cc)
onto_some style c (Some more) ys h = (more, refl, let f : Some (symbol style c ∷ more) ≡ Some ys = h in cc)

-- ---- what is left of COPY, from each place on

abbrev pub ClosedRest : List ℕ → List Symbol → Type 0
ClosedRest cs ys = ((cs ≡ []) × (ys ≡ [])) ⊎ ((rest : List ℕ) × (cs ≡ 32 ∷ rest) × IsCopy rest ys)

pub record InsideRest (style : Style) (cs : List ℕ) (ys : List Symbol) : Type 0 where
  pub own : List Symbol
  pub others : List Symbol
  pub inside : List ℕ
  pub left : List ℕ
  pub split : cs ≡ inside ++ 34 ∷ left
  pub spelled : SpellsInside style inside own
  pub then_rest : ClosedRest left others
  pub all : ys ≡ own ++ others

-- a symbol before what is left inside
inside_more : (style : Style) (ch : ℕ) (prefix rest : List ℕ) (ys : List Symbol) → StandsFor prefix ch → InsideRest style rest ys → InsideRest style (prefix ++ rest) (symbol style ch ∷ ys)
inside_more style ch prefix rest ys stands r = record {
  own = symbol style ch ∷ r.own;
  others = r.others;
  inside = prefix ++ r.inside;
  left = r.left;
  split = ap (λ l. prefix ++ l) r.split ∙ sym (append_assoc prefix r.inside (34 ∷ r.left));
  spelled = (ch, refl, (prefix, r.inside, refl, stands, r.spelled));
  then_rest = r.then_rest;
  all = ap (λ l. symbol style ch ∷ l) r.all;
}

-- at least one symbol is left
pub record OpenedRest (style : Style) (cs : List ℕ) (ys : List Symbol) : Type 0 where
  pub ch : ℕ
  pub prefix : List ℕ
  pub rest : List ℕ
  pub more : List Symbol
  pub split : cs ≡ prefix ++ rest
  pub stands : StandsFor prefix ch
  pub then_inside : InsideRest style rest more
  pub all : ys ≡ symbol style ch ∷ more

pub record EscapeRest (style : Style) (cs : List ℕ) (ys : List Symbol) : Type 0 where
  pub c : ℕ
  pub ch : ℕ
  pub rest : List ℕ
  pub more : List Symbol
  pub split : cs ≡ c ∷ rest
  pub means : escaped c ≡ Some ch
  pub then_inside : InsideRest style rest more
  pub all : ys ≡ symbol style ch ∷ more

abbrev pub RestOf : Place → List ℕ → List Symbol → Type 0
RestOf Run cs ys = IsCopy cs ys
RestOf (Quote style) cs ys = (rest : List ℕ) × (cs ≡ 34 ∷ rest) × OpenedRest style rest ys
RestOf (Opened style) cs ys = OpenedRest style cs ys
RestOf (Inside style) cs ys = InsideRest style cs ys
RestOf (Escape style) cs ys = EscapeRest style cs ys
RestOf Closed cs ys = ClosedRest cs ys

-- a run and what follows it
copy_more : (c : ℕ) (style : Style) (cs : List ℕ) (ys : List Symbol) → style_of c ≡ Some style → RestOf (Quote style) cs ys → IsCopy (c ∷ cs) ys
copy_more c style cs ys named (opened, quote, o) =
    let i = o.then_inside in
    let inside : List ℕ = o.prefix ++ i.inside in
    let split : c ∷ cs ≡ c ∷ 34 ∷ (inside ++ 34 ∷ i.left)
    = ap (λ l. c ∷ l) quote ∙ ap (λ l. c ∷ 34 ∷ l) (o.split ∙ ap (λ l. o.prefix ++ l) i.split ∙ sym (append_assoc o.prefix i.inside (34 ∷ i.left))) in
    let run : (prefix : List ℕ) → prefix ≡ c ∷ 34 ∷ (inside ++ 34 ∷ []) → IsRun prefix (symbol style o.ch) i.own
    = λ prefix is. record { style = style; letter = c; named = named; inside = inside; is = is; spelled = (o.ch, refl, (o.prefix, i.inside, refl, o.stands, i.spelled)) } in
    let symbols : ys ≡ symbol style o.ch ∷ (i.own ++ i.others) = o.all ∙ ap (λ l. symbol style o.ch ∷ l) i.all in
    at inside i.left i.own i.others o.ch split run symbols i.then_rest
  where
    at : (inside left : List ℕ) (own others : List Symbol) (ch : ℕ) → c ∷ cs ≡ c ∷ 34 ∷ (inside ++ 34 ∷ left) → ((prefix : List ℕ) → prefix ≡ c ∷ 34 ∷ (inside ++ 34 ∷ []) → IsRun prefix (symbol style ch) own)
        → ys ≡ symbol style ch ∷ (own ++ others) → ClosedRest left others → IsCopy (c ∷ cs) ys
    at inside left own others ch split run symbols (inl (empty, none)) =
        ((symbol style ch, own) ∷ [], symbols ∙ ap (λ l. symbol style ch ∷ (own ++ l)) none, run (c ∷ cs) (split ∙ ap (λ l. c ∷ 34 ∷ (inside ++ 34 ∷ l)) empty))
    at inside left own others ch split run symbols (inr (rest, space, ([], is, runs))) = absurd runs
    at inside left own others ch split run symbols (inr (rest, space, (next ∷ more, is, runs))) = (
      (symbol style ch, own) ∷ next ∷ more,
      symbols ∙ ap (λ l. symbol style ch ∷ (own ++ l)) is,
      (
        c ∷ 34 ∷ (inside ++ 34 ∷ []),
        rest,
        split ∙ ap (λ l. c ∷ 34 ∷ (inside ++ 34 ∷ l)) space ∙ ap (λ l. c ∷ 34 ∷ l) (sym (append_assoc inside (34 ∷ []) (32 ∷ rest))),
        run (c ∷ 34 ∷ (inside ++ 34 ∷ [])) refl,
        runs,
      ),
    )

pub spelled : (place : Place) (cs : List ℕ) (ys : List Symbol) → copy_from place cs ≡ Some ys → RestOf place cs ys
spelled Run [] ys h = absurd (let f : None ≡ Some ys = h in cc)
spelled (Quote style) [] ys h = absurd (let f : None ≡ Some ys = h in cc)
spelled (Opened style) [] ys h = absurd (let f : None ≡ Some ys = h in cc)
spelled (Inside style) [] ys h = absurd (let f : None ≡ Some ys = h in cc)
spelled (Escape style) [] ys h = absurd (let f : None ≡ Some ys = h in cc)
spelled Closed [] ys h = inl (refl, let f : Some [] ≡ Some ys = h in cc)
spelled Run (c ∷ cs) ys h = at (λ style. spelled (Quote style) cs ys) (style_of c) refl
  where
    at : ((style : Style) → copy_from (Quote style) cs ≡ Some ys → RestOf (Quote style) cs ys) → (o : Option Style) → style_of c ≡ o → IsCopy (c ∷ cs) ys
    at more None e = no _ ys (run_not c cs e) h
    at more (Some style) e = copy_more c style cs ys e (more style (sym (run_on c cs style e) ∙ h))
spelled (Quote style) (c ∷ cs) ys h =
    by_cases (c == 34) (λ e. (cs, ap (λ x. x ∷ cs) (eqb-true c 34 e), spelled (Opened style) cs ys (sym (quote_on style c cs e) ∙ h)))
    (λ e. no _ ys (quote_not style c cs e) h)
spelled (Opened style) (c ∷ cs) ys h =
    by_cases (c == 34) (λ e. no _ ys (opened_not style c cs e) h)
    (λ p. by_cases (c == 92)
    (λ q. let r = spelled (Escape style) cs ys (sym (opened_escape style c cs p q) ∙ h) in
    record { ch = r.ch; prefix = 92 ∷ r.c ∷ []; rest = r.rest; more = r.more; split = ap (λ x. x ∷ cs) (eqb-true c 92 q) ∙ ap (λ l. 92 ∷ l) r.split; stands = inr (r.c, refl, r.means); then_inside = r.then_inside; all = r.all })
    (λ q. let r = onto_some style c (copy_from (Inside style) cs) ys (sym (itself_first style c cs q p) ∙ h) in
    record { ch = c; prefix = c ∷ []; rest = cs; more = r.0; split = refl; stands = inl (refl, is_not c 34 p, is_not c 92 q); then_inside = spelled (Inside style) cs r.0 r.1; all = r.2 }))
spelled (Inside style) (c ∷ cs) ys h =
    by_cases (c == 34)
    (λ e. record { own = []; others = ys; inside = []; left = cs; split = ap (λ x. x ∷ cs) (eqb-true c 34 e); spelled = refl; then_rest = spelled Closed cs ys (sym (inside_close style c cs e) ∙ h); all = refl })
    (λ p. by_cases (c == 92)
    (λ q. let r = spelled (Escape style) cs ys (sym (inside_escape style c cs p q) ∙ h) in
    let more = inside_more style r.ch (92 ∷ r.c ∷ []) r.rest r.more (inr (r.c, refl, r.means)) r.then_inside in
    subst (λ l. InsideRest style l ys) (ap (λ l. 92 ∷ l) (sym r.split) ∙ ap (λ x. x ∷ cs) (sym (eqb-true c 92 q))) (subst (λ l. InsideRest style (92 ∷ r.c ∷ r.rest) l) (sym r.all) more))
    (λ q. let r = onto_some style c (copy_from (Inside style) cs) ys (sym (itself style c cs q p) ∙ h) in
    subst (λ l. InsideRest style (c ∷ cs) l) (sym r.2) (inside_more style c (c ∷ []) cs r.0 (inl (refl, is_not c 34 p, is_not c 92 q)) (spelled (Inside style) cs r.0 r.1))))
spelled (Escape style) (c ∷ cs) ys h = at (λ more. spelled (Inside style) cs more) (escaped c) refl
  where
    at : ((more : List Symbol) → copy_from (Inside style) cs ≡ Some more → InsideRest style cs more) → (o : Option ℕ) → escaped c ≡ o → EscapeRest style (c ∷ cs) ys
    at inside None e = no _ ys (escape_not style c cs e) h
    at inside (Some ch) e =
        let r = onto_some style ch (copy_from (Inside style) cs) ys (sym (escape_on style c ch cs e) ∙ h) in
        record { c = c; ch = ch; rest = cs; more = r.0; split = refl; means = e; then_inside = inside r.0 r.1; all = r.2 }
spelled Closed (c ∷ cs) ys h =
    by_cases (c == 32) (λ e. inr (cs, ap (λ x. x ∷ cs) (eqb-true c 32 e), spelled Run cs ys (sym (closed_on c cs e) ∙ h)))
    (λ e. no _ ys (closed_not c cs e) h)

-- ---- what is spelled is read

stands_read : (style : Style) (ch : ℕ) (prefix rest : List ℕ) → StandsFor prefix ch → copy_from (Inside style) (prefix ++ rest) ≡ onto style ch (copy_from (Inside style) rest)
stands_read style ch prefix rest (inl (is, p, q)) = ap (λ l. copy_from (Inside style) (l ++ rest)) is ∙ itself style ch rest (ne_eqb ch 92 q) (ne_eqb ch 34 p)
stands_read style ch prefix rest (inr (c, is, e)) = ap (λ l. copy_from (Inside style) (l ++ rest)) is ∙ inside_escape style 92 (c ∷ rest) refl refl ∙ escape_on style c ch rest e

stands_first : (style : Style) (ch : ℕ) (prefix rest : List ℕ) → StandsFor prefix ch → copy_from (Opened style) (prefix ++ rest) ≡ onto style ch (copy_from (Inside style) rest)
stands_first style ch prefix rest (inl (is, p, q)) = ap (λ l. copy_from (Opened style) (l ++ rest)) is ∙ itself_first style ch rest (ne_eqb ch 92 q) (ne_eqb ch 34 p)
stands_first style ch prefix rest (inr (c, is, e)) = ap (λ l. copy_from (Opened style) (l ++ rest)) is ∙ opened_escape style 92 (c ∷ rest) refl refl ∙ escape_on style c ch rest e

inside_read : (style : Style) (own : List Symbol) (inside left : List ℕ) (others : List Symbol) → SpellsInside style inside own → copy_from Closed left ≡ Some others
    → copy_from (Inside style) (inside ++ 34 ∷ left) ≡ Some (own ++ others)
inside_read style [] inside left others spelled closed = ap (λ l. copy_from (Inside style) (l ++ 34 ∷ left)) spelled ∙ inside_close style 34 left refl ∙ closed
inside_read style (y ∷ ys) inside left others (ch, is, (prefix, rest, split, stands, spelled)) closed =
    ap (λ l. copy_from (Inside style) (l ++ 34 ∷ left)) split ∙ ap (copy_from (Inside style)) (append_assoc prefix rest (34 ∷ left)) ∙ stands_read style ch prefix (rest ++ 34 ∷ left) stands
    ∙ ap (onto style ch) (inside_read style ys rest left others spelled closed) ∙ ap (λ x. Some (x ∷ (ys ++ others))) (sym is)

run_read : (cs : List ℕ) (first : Symbol) (more : List Symbol) (left : List ℕ) (others : List Symbol) → IsRun cs first more → copy_from Closed left ≡ Some others → copy_from Run (cs ++ left) ≡ Some (first ∷ (more ++ others))
run_read cs first more left others run closed = at run.spelled
  where
    at : SpellsInside run.style run.inside (first ∷ more) → copy_from Run (cs ++ left) ≡ Some (first ∷ (more ++ others))
    at (ch, is, (prefix, rest, split, stands, spelled)) =
        ap (λ l. copy_from Run (l ++ left)) run.is ∙ run_on run.letter (34 ∷ ((run.inside ++ 34 ∷ []) ++ left)) run.style run.named ∙ quote_on run.style 34 ((run.inside ++ 34 ∷ []) ++ left) refl
        ∙ ap (copy_from (Opened run.style)) (append_assoc run.inside (34 ∷ []) left ∙ ap (λ l. l ++ 34 ∷ left) split ∙ append_assoc prefix rest (34 ∷ left))
        ∙ stands_first run.style ch prefix (rest ++ 34 ∷ left) stands ∙ ap (onto run.style ch) (inside_read run.style more rest left others spelled closed) ∙ ap (λ x. Some (x ∷ (more ++ others))) (sym is)

runs_read : (cs : List ℕ) (runs : List RunOf) → AreRuns cs runs → copy_from Run cs ≡ Some (joined runs)
runs_read cs [] h = absurd h
runs_read cs (run ∷ []) h = ap (copy_from Run) (sym (append-nil cs)) ∙ run_read cs run.0 run.1 [] [] h refl
runs_read cs (run ∷ next ∷ runs) (prefix, rest, split, first, others) =
    ap (copy_from Run) split ∙ run_read prefix run.0 run.1 (32 ∷ rest) (joined (next ∷ runs)) first (closed_on 32 rest refl ∙ runs_read rest (next ∷ runs) others)

pub read_whole : (cs : List ℕ) (symbols : List Symbol) → IsCopy cs symbols → copy_from Run cs ≡ Some symbols
read_whole cs symbols (runs, is, are) = runs_read cs runs are ∙ ap Some (sym is)
