-- No place, and one place more.
use Rattle.std.proofs.Common.{◌≡◌, ℕ, suc, ◌+◌, List, [], ◌++◌, ap, arith, refl}
use Rattle.toml.specs.Data.{Data}
use Rattle.feed_check.specs.Texts.{holder, holders, one_text, texts}

next : (n : ℕ) → n + 1 ≡ suc n
next n = omega arith

pub texts_none : (rows : Data) → texts rows 0 ≡ 0
unfolding texts
texts_none rows = refl

pub texts_more : (rows : Data) (n : ℕ) → texts rows (n + 1) ≡ texts rows n + one_text rows n
unfolding texts
texts_more rows n = ap (texts rows) (next n)

pub holders_none : (rows : Data) (text : List ℕ) → holders rows text 0 ≡ []
unfolding holders
holders_none rows text = refl

pub holders_more : (rows : Data) (text : List ℕ) (n : ℕ) → holders rows text (n + 1) ≡ holders rows text n ++ holder rows text n
unfolding holders
holders_more rows text n = ap (holders rows text) (next n)
