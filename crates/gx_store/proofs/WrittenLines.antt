-- A line of a log that is written, read again.
use Rattle.std.proofs.Common.{◌≡◌, ◌≢◌, ◌≤◌, ◌<◌, ◌∙◌, ◌==◌, ◌&&◌, not, Bool, true, false, ℕ, List, [], ◌∷◌, ◌++◌, map, if◌then◌else◌, sym, ap, subst, refl, ne_eqb, arith, append_assoc, inl, inr, ◌⊎◌, Ok}
use Rattle.std.proofs.lemmas.Bool.{not_from_false, and_from, and_parts}
use Rattle.std.proofs.lemmas.List.Folds.{list_all-append}
use Rattle.std.proofs.lemmas.Str.Parse.{digit_from_value}
use Rattle.std.specs.Str.Parse.{AllDigits}
use Rattle.std.specs.List.{list_all}
use Rattle.gx_hash.specs.declared.kind.HashKind.{HashKind}
use Rattle.gx_hash.specs.declared.oid.ObjectId.{ObjectId}
use Rattle.gx_hash.specs.HashKind.{kind_of}
use Rattle.gx_hash.specs.IdDigits.{IsHexId}
use Rattle.gx_hash.specs.ObjectId.{hex_of, id_from_hex}
use Rattle.gx_object.specs.declared.signature.Signature.{Signature}
use Rattle.gx_object.specs.declared.signature.Time.{Time}
use Rattle.gx_object.specs.Identity.{identity_bytes, time_bytes, is_writable_text}
use Rattle.gx_object.specs.IdentitySpelling.{SpellsIdentity, DropsSpaceBehind, DropsSpaceInFront}
use Rattle.gx_object.specs.Split.{Lacks}
use Rattle.gx_object.specs.TimeSpelling.{SpellsTime, SpellsSeconds, SpellsOffset}
use Rattle.gx_object.specs.WrittenText.{written_identity}
use Rattle.gx_store.specs.LogText.{one_line, line_bytes, EndsBeforeTab, HasParts, SpellsSignature, SpellsLine, CanWriteLine}
use Rattle.gx_store.specs.declared.log_line.LogLine.{LogLine}

lacks_first : (byte b : ℕ) (bs : List ℕ) → (b ≡ byte → ⊥) → Lacks byte bs → Lacks byte (b ∷ bs)
lacks_first byte b bs other lacks = and_from (not (b == byte)) _ (not_from_false (b == byte) (ne_eqb b byte other)) lacks

lacks_both : (byte : ℕ) (xs ys : List ℕ) → Lacks byte xs → Lacks byte ys → Lacks byte (xs ++ ys)
lacks_both byte xs ys p q = list_all-append (λ b. not (b == byte)) xs ys ∙ and_from _ _ p q

writable_lacks : (text : List ℕ) → is_writable_text text ≡ true → Lacks 62 text
writable_lacks [] e = refl
writable_lacks (b ∷ bs) e =
    let parts = and_parts _ _ e in
    let here = and_parts (not (b == 60) && not (b == 62)) (not (b == 10)) parts.0 in
    and_from (not (b == 62)) _ (and_parts (not (b == 60)) (not (b == 62)) here.0).1 (writable_lacks bs parts.1)

digits_lack : (digits : List ℕ) → AllDigits 10 digits → Lacks 9 digits
digits_lack [] all = refl
digits_lack (c ∷ cs) all =
    let some = digit_from_value c (let here = all.0 in omega arith) in
    lacks_first 9 c cs (λ same. omega (arith, some.0)) (digits_lack cs all.1)

seconds_lack : (text : List ℕ) (time : Time) → SpellsSeconds text time.seconds → Lacks 9 text
seconds_lack text time (fits, inl (number, spelled, is)) = digits_lack text spelled.0.1
seconds_lack text time (fits, inr (digits, number, same, spelled, is)) =
    subst (Lacks 9) (sym same) (lacks_first 9 45 digits (λ e. omega (arith, e)) (digits_lack digits spelled.0.1))

offset_lack : (text : List ℕ) (time : Time) → SpellsOffset text time.offset → Lacks 9 text
offset_lack text time spelled =
    subst (Lacks 9) (sym spelled.whole) (lacks_both 9 (spelled.sign ∷ spelled.hours_text) spelled.minutes_text
    (lacks_first 9 spelled.sign spelled.hours_text (sign spelled.signed) (digits_lack spelled.hours_text spelled.hours_spelled.1.0.1))
    (digits_lack spelled.minutes_text spelled.minutes_spelled.1.0.1))
  where
    sign : {A B : Type 0} → ((spelled.sign ≡ 43) × A) ⊎ ((spelled.sign ≡ 45) × B) → spelled.sign ≡ 9 → ⊥
    sign (inl (e, a)) same = omega (arith, e, same)
    sign (inr (e, a)) same = omega (arith, e, same)

time_lacks : (text : List ℕ) (time : Time) → SpellsTime text time → Lacks 9 text
time_lacks text time spelled =
    subst (Lacks 9) (sym spelled.whole) (lacks_both 9 spelled.seconds_text (32 ∷ spelled.offset_text) (seconds_lack spelled.seconds_text time spelled.seconds)
    (lacks_first 9 32 spelled.offset_text (λ e. omega (arith, e)) (offset_lack spelled.offset_text time spelled.offset)))

front_lacks : (before name : List ℕ) → DropsSpaceBehind before name → Lacks 62 name → Lacks 62 before
front_lacks before name (inl e) p = subst (Lacks 62) (sym e) (lacks_both 62 name (32 ∷ []) p refl)
front_lacks before name (inr e) p = subst (Lacks 62) (sym e.0) p

behind_lacks : (behind time : List ℕ) → DropsSpaceInFront behind time → Lacks 9 time → Lacks 9 behind
behind_lacks behind time (inl e) p = subst (Lacks 9) (sym e) (lacks_first 9 32 time (λ same. omega (arith, same)) p)
behind_lacks behind time (inr e) p = subst (Lacks 9) (sym e.0) p

one_line_is : (message : List ℕ) → Lacks 10 message → one_line message ≡ message
one_line_is [] lacks = refl
one_line_is (b ∷ bs) lacks = first (b == 10) (and_parts _ _ lacks).0 (one_line_is bs (and_parts _ _ lacks).1)
  where
    first : (is : Bool) → not is ≡ true → one_line bs ≡ bs → (if is then 32 else b) ∷ one_line bs ≡ b ∷ bs
    first true e rest = cc
    first false e rest = ap (λ x. b ∷ x) rest

regrouped : (p n i m : List ℕ) → p ++ 32 ∷ n ++ 32 ∷ i ++ 9 ∷ m ≡ p ++ 32 ∷ (n ++ 32 ∷ (i ++ 9 ∷ m))
regrouped p n i m = append_assoc (p ++ 32 ∷ n) (32 ∷ i) (9 ∷ m) ∙ append_assoc p (32 ∷ n) (32 ∷ (i ++ 9 ∷ m))

-- what is written of a line spells it
pub written : (hash : HashKind) (line : LogLine) → IsHexId (kind_of line.previous) (hex_of line.previous) → IsHexId (kind_of line.new) (hex_of line.new)
    → SpellsIdentity (identity_bytes line.signature) (written_identity line.signature) → SpellsTime (time_bytes line.signature.time) line.signature.time
    → is_writable_text line.signature.name ≡ true → is_writable_text line.signature.email ≡ true
    → CanWriteLine hash line → SpellsLine hash (line_bytes line) line
unfolding line_bytes
written hash line old new who time name email can = record {
  identity = identity_bytes line.signature;
  parts = record {
    whole = ap (λ m. hex_of line.previous ++ 32 ∷ hex_of line.new ++ 32 ∷ identity_bytes line.signature ++ 9 ∷ m) (one_line_is line.message can.message) ∙ regrouped (hex_of line.previous) (hex_of line.new) (identity_bytes line.signature) line.message;
    old_id = subst (λ h. IsHexId h (hex_of line.previous)) can.kind.0 old;
    new_id = subst (λ h. IsHexId h (hex_of line.new)) can.kind.1 new;
    ends = (
      who.before ++ 60 ∷ line.signature.email,
      who.behind,
      who.whole,
      lacks_both 62 who.before (60 ∷ line.signature.email) (front_lacks who.before line.signature.name who.name (writable_lacks line.signature.name name)) (lacks_first 62 60 line.signature.email (λ e. omega (arith, e)) (writable_lacks line.signature.email email)),
      behind_lacks who.behind (time_bytes line.signature.time) who.time (time_lacks (time_bytes line.signature.time) line.signature.time time),
    );
    one = can.message;
  };
  kind = can.kind;
  signature = record { time_text = time_bytes line.signature.time; spelled = who; time = time };
}
