-- The whole of files is in order, and a tree.
use Rattle.std.proofs.Common.{◌≡◌, ◌≤◌, ℕ, true, List, [], ◌++◌, length, refl, sym, ap, subst}
use Rattle.std.specs.List.{AllByRecursion}
use Rattle.fort_lex_token.specs.declared.token.Token.{Token}
use Rattle.fort_lex_token.specs.declared.token.Tokens.{Tokens}
use Rattle.fort_lex.specs.Files.{HasTokens}
use Rattle.fort_tree.specs.declared.declarations.Component.{Component}
use Rattle.fort_tree.specs.Component.{HasTree, yield}
use Rattle.fort_syntax.specs.Answer.{TreeGoesOver, NamesAreIn, name_is_in}
use Rattle.fort_link_table.specs.Table.{empty_table}
use Rattle.fort_link_table.specs.Laws.{NamesGoOn, JoinedNamesAreIn, JoinedNumbersFit, JoinedStandsApart, JoinedStandsBehind, StandApart, Fits}
use Rattle.fort_link.specs.Answer.{IsLinked}
use Rattle.fort_link.specs.Whole.{components, all_declared_before}
use Rattle.fort_link.proofs.Feeds.{on_its_lines}
use Rattle.fort_link_law_whole.proofs.Sub.{Seams, sub_both, sub_same, once_sub, all_sub, all_both}
use Rattle.fort_link_law_whole.proofs.Whole.{bodies, head_tokens, said_by, end_tokens, all_sub_bodies, whole_tokens}
use Rattle.fort_link_law_whole.proofs.Chain.{AllOf, ApartOf, named_of, fit_of, apart_of, lined_of}
use Rattle.fort_link_law_whole.proofs.Apart.{all_bodies, all_head, head_apart}
use Rattle.fort_link_law_whole.proofs.Obeying.{whole_obeys}

-- the tokens of a component, over its names and texts
abbrev own : Component → Tokens
own c = record { list = yield c; names = c.names; texts = c.texts }

pub tree : TreeGoesOver → NamesGoOn → JoinedNamesAreIn
    → ((file : List ℕ) (tokens : Tokens) → HasTokens file tokens
    → NamesAreIn tokens.names tokens.list)
    → (files : List (List ℕ)) (c : Component) → IsLinked files c → HasTree (own c) c
tree goes on keep file_named files c h = record {
  yields = refl;
  names = refl;
  texts = refl;
  obeys = whole_obeys goes on keep file_named empty_table files h.units h.table c h.are h.whole;
}

-- what is so of all tokens of the files, and of a `;` where it is of an `end`, is so of the whole's
whole_all : (P : Token → Type 0) → Seams P → (files : List (List ℕ)) (c : Component)
    → (h : IsLinked files c) → AllOf P empty_table files h.units h.table h.are
    → AllByRecursion P (yield c)
whole_all P seam files c h all =
    let us = components h.units in
    let ds = said_by (all_declared_before us []) ++ end_tokens h.whole.end in
    subst (AllByRecursion P)
    (sym (whole_tokens h.table.names h.table.texts h.units c h.whole))
    (all_both P (head_tokens h.whole.head) ds
    (all_head P seam h.table.names empty_table files h.units h.table h.whole.head h.are all
    h.whole.begins)
    (all_sub P seam ds (bodies us) (all_sub_bodies us h.whole.end h.whole.ends)
    (all_bodies P seam empty_table files h.units h.table h.are all)))

whole_apart : (files : List (List ℕ)) (c : Component) → (h : IsLinked files c)
    → ApartOf empty_table files h.units h.table h.are → StandApart (yield c)
whole_apart files c h a =
    let us = components h.units in
    let ds = said_by (all_declared_before us []) ++ end_tokens h.whole.end in
    let head = head_tokens h.whole.head in
    subst StandApart (sym (whole_tokens h.table.names h.table.texts h.units c h.whole))
    (once_sub (head ++ ds) (head ++ bodies us)
    (sub_both head head ds (bodies us) (sub_same head)
    (all_sub_bodies us h.whole.end h.whole.ends))
    (head_apart h.table.names empty_table files h.units h.table h.whole.head h.are a
    h.whole.begins))

pub apart : JoinedStandsApart → JoinedStandsBehind
    → ((file : List ℕ) (tokens : Tokens) → HasTokens file tokens → StandApart tokens.list)
    → ((file : List ℕ) (tokens : Tokens) → HasTokens file tokens
    → AllByRecursion (λ (t : Token). 1 ≤ t.place.line) tokens.list)
    → (files : List (List ℕ)) (c : Component) → IsLinked files c → StandApart (yield c)
apart stand behind file_apart from_one files c h =
    whole_apart files c h
    (apart_of stand behind file_apart from_one on_its_lines empty_table files h.units h.table
    h.are)

pub lined : JoinedStandsApart → JoinedStandsBehind
    → ((file : List ℕ) (tokens : Tokens) → HasTokens file tokens → StandApart tokens.list)
    → ((file : List ℕ) (tokens : Tokens) → HasTokens file tokens
    → AllByRecursion (λ (t : Token). 1 ≤ t.place.line) tokens.list)
    → (files : List (List ℕ)) (c : Component) → IsLinked files c
    → AllByRecursion (λ (t : Token). 1 ≤ t.place.line) (yield c)
lined stand behind file_apart from_one files c h =
    whole_all (λ t. 1 ≤ t.place.line) (λ s k. k) files c h
    (lined_of empty_table files h.units h.table h.are
    (apart_of stand behind file_apart from_one on_its_lines empty_table files h.units h.table
    h.are))

pub named : NamesGoOn → JoinedNamesAreIn
    → ((file : List ℕ) (tokens : Tokens) → HasTokens file tokens
    → NamesAreIn tokens.names tokens.list)
    → (files : List (List ℕ)) (c : Component) → IsLinked files c → NamesAreIn c.names (yield c)
named on keep file_named files c h =
    subst (λ names. NamesAreIn names (yield c)) (sym (ap (λ (x : Component). x.names) h.whole.is))
    (whole_all (λ t. name_is_in (length h.table.names) t.kind ≡ true) (λ s k. refl) files c h
    (named_of on keep file_named empty_table files h.units h.table h.are))

pub fit : JoinedNumbersFit
    → ((file : List ℕ) (tokens : Tokens) → HasTokens file tokens → AllByRecursion Fits tokens.list)
    → (files : List (List ℕ)) (c : Component) → IsLinked files c → AllByRecursion Fits (yield c)
fit keep file_fits files c h =
    whole_all Fits (λ s k. tt) files c h
    (fit_of keep file_fits empty_table files h.units h.table h.are)
