-- Lists of stamps that grow at their end, and stamps that take their place.
use Rattle.std.proofs.Common.{◌≡◌, ℕ, ◌+◌, ◌<◌, ◌≤◌, List, [], ◌∷◌, ◌++◌, length, refl, sym, ap, subst, ◌∙◌, append_assoc, arith}
use Rattle.std.proofs.lemmas.List.{append-nil}
use Rattle.desk_ops.specs.declared.op.Stamp.{Stamp}
use Rattle.std.specs.Prelude.{MatchOption, Option, None, Some}
use Rattle.feed_stored.specs.Text.{IsNumbered, IsTextOf, Records, Rises, counter_of, last_text, stamp_line}
use Rattle.feed_stored.proofs.Lines.{line_same, texts_same}

pub text_append : (xs ys : List Stamp) → last_text (xs ++ ys) ≡ last_text xs ++ last_text ys
text_append [] ys = refl
text_append (s ∷ xs) ys = ap (λ t. stamp_line s ++ t) (text_append xs ys) ∙ sym (append_assoc (stamp_line s) (last_text xs) (last_text ys))

-- what stands behind the stamps of the front of a text
abbrev pub SplitsAt : List ℕ → List Stamp → ℕ → List ℕ → Type 0
SplitsAt bytes stamps low rest = (all : List Stamp) → Rises 0 all → bytes ≡ last_text all → (more : List Stamp) × (all ≡ stamps ++ more) × Rises low more × (rest ≡ last_text more)

abbrev pub Joins : List Stamp → ℕ → Type 0
Joins stamps low = (more : List Stamp) → Rises low more → Rises 0 (stamps ++ more)

-- where no line of a stamp is first, and something is left, there is no list
pub none_first : (bytes : List ℕ) (stamps : List Stamp) (low : ℕ) (rest : List ℕ) → SplitsAt bytes stamps low rest → (rest ≡ [] → ⊥) → ((s : Stamp) (more : List ℕ) → IsNumbered s → rest ≡ stamp_line s ++ more → ⊥)
    → (all : List Stamp) → Rises 0 all → bytes ≡ last_text all → ⊥
none_first bytes stamps low rest splits some none all rises is = go (splits all rises is)
  where
    go : ((more : List Stamp) × (all ≡ stamps ++ more) × Rises low more × (rest ≡ last_text more)) → ⊥
    go ([], parts, up, left) = some left
    go (s ∷ more, parts, up, left) = none s (last_text more) up.0 left

-- nor where the first line is of a site too small
pub none_falls : (bytes : List ℕ) (stamps : List Stamp) (low : ℕ) (rest : List ℕ) → SplitsAt bytes stamps low rest → (s : Stamp) (behind : List ℕ) → IsNumbered s → rest ≡ stamp_line s ++ behind → s.site < low
    → (all : List Stamp) → Rises 0 all → bytes ≡ last_text all → ⊥
none_falls bytes stamps low rest splits s behind numbered first small all rises is = go (splits all rises is)
  where
    go : ((more : List Stamp) × (all ≡ stamps ++ more) × Rises low more × (rest ≡ last_text more)) → ⊥
    go ([], parts, up, left) = let none : stamp_line s ++ behind ≡ [] = sym first ∙ left in absurd (cc)
    go (t ∷ more, parts, up, left) =
        let one = line_same s t behind (last_text more) numbered up.0 (sym first ∙ left) in
        let same : s.site ≡ t.site = ap (λ (x : Stamp). x.site) one.0 in
        let least : low ≤ t.site = up.1 in
        omega (arith, same, least, small)

-- with one more stamp
pub splits_more : (bytes : List ℕ) (stamps : List Stamp) (low : ℕ) (rest : List ℕ) → SplitsAt bytes stamps low rest → (s : Stamp) (behind : List ℕ) → IsNumbered s → rest ≡ stamp_line s ++ behind → SplitsAt bytes (stamps ++ s ∷ []) (s.site + 1) behind
splits_more bytes stamps low rest splits s behind numbered first all rises is = go (splits all rises is)
  where
    go : ((more : List Stamp) × (all ≡ stamps ++ more) × Rises low more × (rest ≡ last_text more)) → (more : List Stamp) × (all ≡ (stamps ++ s ∷ []) ++ more) × Rises (s.site + 1) more × (behind ≡ last_text more)
    go ([], parts, up, left) = let none : stamp_line s ++ behind ≡ [] = sym first ∙ left in absurd (cc)
    go (t ∷ more, parts, up, left) =
        let one = line_same s t behind (last_text more) numbered up.0 (sym first ∙ left) in (
          more,
          parts ∙ ap (λ (x : Stamp). stamps ++ x ∷ more) (sym one.0) ∙ sym (append_assoc stamps (s ∷ []) more),
          subst (λ (x : Stamp). Rises (x.site + 1) more) (sym one.0) up.2,
          one.1,
        )

pub joins_more : (stamps : List Stamp) (low : ℕ) → Joins stamps low → (s : Stamp) → IsNumbered s → low ≤ s.site → Joins (stamps ++ s ∷ []) (s.site + 1)
joins_more stamps low joins s numbered least more up =
    subst (λ (l : List Stamp). Rises 0 l) (sym (append_assoc stamps (s ∷ []) more)) (joins (s ∷ more) (numbered, least, up))

pub text_more : (bytes : List ℕ) (stamps : List Stamp) (rest : List ℕ) (s : Stamp) (behind : List ℕ) → bytes ≡ last_text stamps ++ rest → rest ≡ stamp_line s ++ behind → bytes ≡ last_text (stamps ++ s ∷ []) ++ behind
text_more bytes stamps rest s behind is first =
    is ∙ ap (λ t. last_text stamps ++ t) first ∙ sym (append_assoc (last_text stamps) (stamp_line s) behind)
    ∙ ap (λ t. t ++ behind) (ap (λ t. last_text stamps ++ t) (sym (append-nil (stamp_line s))) ∙ sym (text_append stamps (s ∷ [])))

-- the lines of a text in their order
pub text_placed : (b0 b1 b2 b3 : List ℕ) (below above : List Stamp) (new : Stamp) → b0 ≡ [] → b1 ≡ b0 ++ last_text below → b2 ≡ b1 ++ stamp_line new → b3 ≡ b2 ++ last_text above → b3 ≡ last_text (below ++ new ∷ above)
text_placed b0 b1 b2 b3 below above new none first second third =
    third ∙ ap (λ t. t ++ last_text above) (second ∙ ap (λ t. t ++ stamp_line new) (first ∙ ap (λ t. t ++ last_text below) none))
    ∙ append_assoc (last_text below) (stamp_line new) (last_text above) ∙ sym (text_append below (new ∷ above))

-- what a text says of a site, it says once
pub says_one : (bytes : List ℕ) (site first second : ℕ) → Records bytes site first → Records bytes site second → first ≡ second
says_one bytes site first second (xs, fx, sx) (ys, fy, sy) =
    let same : xs ≡ ys = texts_same 0 0 xs ys fx.0 fy.0 (sym fx.1 ∙ fy.1) in
    let both : Some first ≡ Some second = sym sx ∙ ap (λ l. counter_of l site) same ∙ sy in
    cc

pub said_by : (bytes : List ℕ) (stamps : List Stamp) (site : ℕ) (o : Option ℕ) → IsTextOf bytes stamps → o ≡ counter_of stamps site → MatchOption o ((made : ℕ) → Records bytes site made → ⊥) (λ made. Records bytes site made)
said_by bytes stamps site (Some made) is same = (stamps, is, sym same)
said_by bytes stamps site None is same = λ made records. none made records
  where
    none : (made : ℕ) → Records bytes site made → ⊥
    none made (ys, fy, sy) =
        let one : stamps ≡ ys = texts_same 0 0 stamps ys is.0 fy.0 (sym is.1 ∙ fy.1) in
        let both : None ≡ Some made = same ∙ ap (λ l. counter_of l site) one ∙ sy in
        cc

-- what is said of an option that is there
pub some_of : {A : Type 0} (P : Type 0) (Q : A → Type 0) (o : Option A) (x : A) → o ≡ Some x → MatchOption o P Q → Q x
some_of P Q (Some y) x is h = let same : y ≡ x = cc in subst Q same h
some_of P Q None x is h = absurd (cc)

pub none_left : (bytes : List ℕ) → length bytes ≡ 0 → bytes ≡ []
none_left [] few = refl
none_left (b ∷ bytes) few = absurd (omega (arith, few))
