-- A word that is looked for without case is found as the definitions find it.
use Rattle.std.proofs.Common.{◌≡◌, ℕ, Bool, true, false, ◌&&◌, ◌||◌, List, [], ◌∷◌, codes, bytes_eq, nat_eq, refl, sym, ap, ◌∙◌}
use Rattle.std.specs.Char.{to_ascii_lowercase}
use Rattle.http_header.specs.Token.{lowercase}
use Rattle.http_types.specs.HttpMessage.{begins_with as http_begins, has_word as http_word}
use Rattle.model_h1.specs.Handshake.{has_word}
use Rattle.ws_session.specs.Upgrade.{IsFoundAlike}

-- the text begins with the word, which is in lower case, whatever the case of the text
abbrev pub begins_with : List ℕ → List ℕ → Bool
begins_with [] text = true
begins_with (w ∷ word) [] = false
begins_with (w ∷ word) (t ∷ text) = bytes_eq (lowercase (t ∷ [])) (w ∷ []) && begins_with word text

-- the definitions find this word in a text where the text, or a rest of it, begins with it
abbrev pub IsFoundByBeginnings : List ℕ → Type 0
IsFoundByBeginnings word = (t : ℕ) (text : List ℕ) → has_word word (t ∷ text) ≡ (begins_with word (t ∷ text) || has_word word text)

-- the two words that requests have to have, case by case of how far the text goes
websocket_is_found : IsFoundByBeginnings (codes "websocket")
unfolding has_word
websocket_is_found t [] = refl
websocket_is_found t (a ∷ []) = refl
websocket_is_found t (a ∷ b ∷ []) = refl
websocket_is_found t (a ∷ b ∷ c ∷ []) = refl
websocket_is_found t (a ∷ b ∷ c ∷ d ∷ []) = refl
websocket_is_found t (a ∷ b ∷ c ∷ d ∷ e ∷ []) = refl
websocket_is_found t (a ∷ b ∷ c ∷ d ∷ e ∷ f ∷ []) = refl
websocket_is_found t (a ∷ b ∷ c ∷ d ∷ e ∷ f ∷ g ∷ []) = refl
websocket_is_found t (a ∷ b ∷ c ∷ d ∷ e ∷ f ∷ g ∷ i ∷ text) = refl

upgrade_is_found : IsFoundByBeginnings (codes "upgrade")
unfolding has_word
upgrade_is_found t [] = refl
upgrade_is_found t (a ∷ []) = refl
upgrade_is_found t (a ∷ b ∷ []) = refl
upgrade_is_found t (a ∷ b ∷ c ∷ []) = refl
upgrade_is_found t (a ∷ b ∷ c ∷ d ∷ []) = refl
upgrade_is_found t (a ∷ b ∷ c ∷ d ∷ e ∷ []) = refl
upgrade_is_found t (a ∷ b ∷ c ∷ d ∷ e ∷ f ∷ text) = refl

-- one byte more
one_more : (a b c : Bool) → b ≡ c → (a && b) ≡ ((a && true) && c)
one_more true b c same = same
one_more false b c same = refl

-- a text begins with a word alike, byte by byte or as a whole
begins_alike : (word text : List ℕ) → http_begins word text ≡ begins_with (lowercase word) text
begins_alike [] [] = refl
begins_alike [] (t ∷ text) = refl
begins_alike (w ∷ word) [] = refl
begins_alike (w ∷ word) (t ∷ text) =
    one_more (nat_eq (to_ascii_lowercase t) (to_ascii_lowercase w)) (http_begins word text) (begins_with (lowercase word) text) (begins_alike word text)

-- and so it is found alike
found_alike : (word : List ℕ) → lowercase word ≡ word → IsFoundByBeginnings word → http_word word [] ≡ has_word word [] → IsFoundAlike word
unfolding http_word
found_alike word low found nowhere [] = nowhere
found_alike word low found nowhere (t ∷ text) =
    let first : http_begins word (t ∷ text) ≡ begins_with word (t ∷ text)
    = begins_alike word (t ∷ text) ∙ ap (λ (w : List ℕ). begins_with w (t ∷ text)) low in
    let others = found_alike word low found nowhere text in
    (λ i. first i || others i) ∙ sym (found t text)

pub websocket_alike : IsFoundAlike (codes "websocket")
unfolding http_word has_word
websocket_alike = found_alike (codes "websocket") refl websocket_is_found refl

pub upgrade_alike : IsFoundAlike (codes "upgrade")
unfolding http_word has_word
upgrade_alike = found_alike (codes "upgrade") refl upgrade_is_found refl
