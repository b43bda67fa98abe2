-- The bytes that HFS+ passes over are the UTF-8 of its code points.
use Rattle.std.proofs.Common.{◌≡◌, ℕ, ◌<◌, Bool, true, false, List, [], ◌∷◌, refl, ◌∙◌, ◌&&◌, ◌||◌, ◌==◌, nat_le, bytes_eq}
use Rattle.std.specs.Char.{encode_utf8}
use Rattle.std.proofs.Math.Bool.{or_assoc}
use Rattle.std.proofs.lemmas.Bool.{agree_below_at}
use Rattle.std.proofs.lemmas.List.Folds.{list_any-append}
use Rattle.std.specs.List.{list_any}
use Rattle.gx_rules.specs.Component.{is_ignorable, ignorable_points}

never : (zs : List ℕ) → list_any (λ z. false) zs ≡ false
never [] = refl
never (z ∷ zs) = never zs

-- code points with the same first two bytes
group : (t u : Bool) (c : ℕ) (zs : List ℕ) (range : ℕ → Bool) → list_any (λ z. c == z && true) zs ≡ range c → list_any (λ z. t && (u && (c == z && true))) zs ≡ (t && u && range c)
group true true c zs range e = e
group true false c zs range e = never zs
group false u c zs range e = never zs

-- the last bytes, of each group
abbrev firsts : List ℕ
firsts = 140 ∷ 141 ∷ 142 ∷ 143 ∷ 170 ∷ 171 ∷ 172 ∷ 173 ∷ 174 ∷ []

abbrev seconds : List ℕ
seconds = 170 ∷ 171 ∷ 172 ∷ 173 ∷ 174 ∷ 175 ∷ []

abbrev in_firsts : ℕ → Bool
in_firsts c = nat_le 140 c && nat_le c 143 || nat_le 170 c && nat_le c 174

abbrev in_seconds : ℕ → Bool
in_seconds c = nat_le 170 c && nat_le c 175

-- the three bytes are the UTF-8 of the code point
abbrev spelled : ℕ → ℕ → ℕ → ℕ → Bool
spelled a b c point = bytes_eq (a ∷ b ∷ c ∷ []) (encode_utf8 point)

three_parts : (whole first behind second third x y z : Bool) → whole ≡ (first || behind) → behind ≡ (second || third) → first ≡ x → second ≡ y → third ≡ z → (x || (y || z)) ≡ whole
three_parts whole first behind second third x y z e f p q r = cc

pub ignorable_by_points : (a b c : ℕ) → c < 256 → is_ignorable a b c ≡ list_any (λ point. bytes_eq (a ∷ b ∷ c ∷ []) (encode_utf8 point)) ignorable_points
unfolding encode_utf8
ignorable_by_points a b c byte =
    let first : list_any (spelled a b c) (8204 ∷ 8205 ∷ 8206 ∷ 8207 ∷ 8234 ∷ 8235 ∷ 8236 ∷ 8237 ∷ 8238 ∷ []) ≡ (a == 226 && b == 128 && in_firsts c) = group (a == 226) (b == 128) c firsts in_firsts (agree_below_at (λ c. list_any (λ z. c == z && true) firsts) in_firsts 256 c refl byte) in
    let second : list_any (spelled a b c) (8298 ∷ 8299 ∷ 8300 ∷ 8301 ∷ 8302 ∷ 8303 ∷ []) ≡ (a == 226 && b == 129 && in_seconds c) = group (a == 226) (b == 129) c seconds in_seconds (agree_below_at (λ c. list_any (λ z. c == z && true) seconds) in_seconds 256 c refl byte) in
    let third : list_any (spelled a b c) (65279 ∷ []) ≡ (a == 239 && b == 187 && c == 191) = group (a == 239) (b == 187) c (191 ∷ []) (λ c. c == 191) (agree_below_at (λ c. list_any (λ z. c == z && true) (191 ∷ [])) (λ c. c == 191) 256 c refl byte) in
    let behind : list_any (spelled a b c) (8298 ∷ 8299 ∷ 8300 ∷ 8301 ∷ 8302 ∷ 8303 ∷ 65279 ∷ []) ≡ (list_any (spelled a b c) (8298 ∷ 8299 ∷ 8300 ∷ 8301 ∷ 8302 ∷ 8303 ∷ []) || list_any (spelled a b c) (65279 ∷ [])) = list_any-append (spelled a b c) (8298 ∷ 8299 ∷ 8300 ∷ 8301 ∷ 8302 ∷ 8303 ∷ []) (65279 ∷ []) in
    let whole : list_any (spelled a b c) ignorable_points ≡ (list_any (spelled a b c) (8204 ∷ 8205 ∷ 8206 ∷ 8207 ∷ 8234 ∷ 8235 ∷ 8236 ∷ 8237 ∷ 8238 ∷ []) || list_any (spelled a b c) (8298 ∷ 8299 ∷ 8300 ∷ 8301 ∷ 8302 ∷ 8303 ∷ 65279 ∷ [])) = list_any-append (spelled a b c) (8204 ∷ 8205 ∷ 8206 ∷ 8207 ∷ 8234 ∷ 8235 ∷ 8236 ∷ 8237 ∷ 8238 ∷ []) (8298 ∷ 8299 ∷ 8300 ∷ 8301 ∷ 8302 ∷ 8303 ∷ 65279 ∷ []) in
    or_assoc (a == 226 && b == 128 && in_firsts c) (a == 226 && b == 129 && in_seconds c) (a == 239 && b == 187 && c == 191)
    ∙ three_parts _ _ _ _ _ _ _ _ whole behind first second third
