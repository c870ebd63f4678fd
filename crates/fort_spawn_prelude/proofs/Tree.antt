-- The declarations of the prelude over any numbers of its names, beside what they say. A token's
-- number stands at it.
use Rattle.std.proofs.Common.{ℕ, List, [], ◌∷◌, ◌++◌, Option, Some, None, codes}
use Rattle.fort_base.specs.declared.ids.NameId.{NameId}
use Rattle.fort_ops.specs.declared.op.Op.TheVariants as op
use Rattle.fort_tree.specs.declared.spot.Spot.{Spot}
use Rattle.fort_tree.specs.declared.spot.Name.{Name}
use Rattle.fort_tree.specs.declared.declarations.Names.TheVariants as names_of
use Rattle.fort_tree.specs.declared.expr.AssignSign.TheVariants as assign_sign
use Rattle.fort_tree.specs.Declarations.{said_declared}
use Rattle.fort_spawn_prelude.specs.Numbers.{Spelling}
use Rattle.fort_spawn_prelude.proofs.Making.{Made, tight, spaced, lined, type_named, no_type, type_of, no_result, arrow, name_atom, number, yes, no, oneself, unit_atom, parens, form, field, method_call, beside, run, operate, flat, just, value, only, assign, open_, open_assign, atomic, throw, fn_head, entry, item, step, local, also, do_, otherwise, if_, for_, clause, else_, typecase, catch, try_, parameter, function, variable, signature, method, variable_member, trait_, field_parameter, extending, object}
use Prim.Native.String.{String}

module _ (id : Spelling → NameId) where
  -- a name by its spelling
  abbrev called : String → Spot → Name
  called text s = record { id = id (codes text); spot = s }

  unfoldable pub queue : Made said_declared
  queue = variable (Some (lined 1)) (called "queue'" (spaced 2)) (tight 3) (type_of (called "Any" (spaced 4))) (spaced 5) (only (unit_atom (spaced 6) (tight 7))) None

  unfoldable pub opened : Made said_declared
  opened = variable (Some (lined 8)) (called "open'" (spaced 9)) (tight 10) (type_of (called "ZZ32" (spaced 11))) (spaced 12) (only (number 0 (spaced 13))) None

  unfoldable pub counted : Made said_declared
  counted = variable (Some (lined 14)) (called "count'" (spaced 15)) (tight 16) (type_of (called "ZZ32" (spaced 17))) (spaced 18) (only (number 0 (spaced 19))) None

  unfoldable pub started : Made said_declared
  started = variable (Some (lined 20)) (called "started'" (spaced 21)) (tight 22) (type_of (called "Boolean" (spaced 23))) (spaced 24) (only (no (spaced 25))) None

  unfoldable pub too_many : Made said_declared
  too_many = object (lined 26) (called "TooManyThreads" (spaced 27)) None (extending (spaced 28) (called "Exception" (spaced 29))) [] (spaced 30) None

  unfoldable pub thread : Made said_declared
  thread = trait_ (lined 31) (called "Thread" (spaced 32)) (spaced 33) (names_of.Braces (spaced 34) (called "Thread'" (spaced 35)) [] (spaced 36)) ((signature (called "wait" (lined 37)) (tight 38) (tight 39) (tight 40) (no_result (spaced 41) (tight 42))) ∷ (signature (called "ready" (lined 43)) (tight 44) (tight 45) (tight 46) (type_of (called "Boolean" (spaced 47)))) ∷ (signature (called "val" (lined 48)) (tight 49) (tight 50) (tight 51) (type_of (called "Any" (spaced 52)))) ∷ []) (lined 53) None

  unfoldable pub thread_object : Made said_declared
  thread_object = object (lined 54) (called "Thread'" (spaced 55)) (Some (field_parameter (tight 56) (called "body'" (tight 57)) (tight 58) (arrow (no_type (spaced 59) (tight 60)) (spaced 61) (type_named (called "Any" (spaced 62)))) (tight 63))) (extending (spaced 64) (called "Thread" (spaced 65))) ((variable_member (Some (lined 66)) (called "state'" (spaced 67)) (tight 68) (type_of (called "ZZ32" (spaced 69))) (spaced 70) (only (number 0 (spaced 71)))) ∷ (variable_member (Some (lined 72)) (called "value'" (spaced 73)) (tight 74) (type_of (called "Any" (spaced 75))) (spaced 76) (only (unit_atom (spaced 77) (tight 78)))) ∷ (variable_member (Some (lined 79)) (called "next'" (spaced 80)) (tight 81) (type_of (called "Any" (spaced 82))) (spaced 83) (only (unit_atom (spaced 84) (tight 85)))) ∷ (method (called "wait" (lined 86)) (tight 87) (tight 88) (tight 89) (no_result (spaced 90) (tight 91)) (spaced 92) (open_ (atomic (spaced 93)) (just (form (if_ (spaced 94) (flat (run (name_atom (called "state'" (spaced 95))) []) ((operate op.Eq (spaced 96) (run (number 0 (spaced 97)) [])) ∷ [])) (spaced 98) ((step (value (flat (run (name_atom (called "abort" (spaced 99))) ((beside (unit_atom (tight 100) (tight 101))) ∷ [])) []))) ∷ []) None (spaced 102)))))) ∷ (method (called "ready" (lined 103)) (tight 104) (tight 105) (tight 106) (type_of (called "Boolean" (spaced 107))) (spaced 108) (value (flat (run (name_atom (called "state'" (spaced 109))) []) ((operate op.Ne (spaced 110) (run (number 0 (spaced 111)) [])) ∷ [])))) ∷ (method (called "val" (lined 112)) (tight 113) (tight 114) (tight 115) (type_of (called "Any" (spaced 116))) (spaced 117) (only (form (do_ (spaced 118) ((step (value (flat (run (oneself (lined 119)) ((method_call (tight 120) (called "wait" (tight 121)) (tight 122) (tight 123)) ∷ [])) []))) ∷ (step (only (form (if_ (lined 124) (flat (run (name_atom (called "state'" (spaced 125))) []) ((operate op.Eq (spaced 126) (run (number 2 (spaced 127)) [])) ∷ [])) (lined 128) ((step (only (form (typecase (spaced 129) (called "x'" (spaced 130)) (spaced 131) (just (name_atom (called "value'" (spaced 132)))) (spaced 133) ((clause (type_of (called "Exception" (spaced 134))) (spaced 135) (open_ (throw (spaced 136)) (just (name_atom (called "x'" (spaced 137))))) (Some (tight 138))) ∷ []) (else_ (spaced 139) (spaced 140) (only (name_atom (called "x'" (spaced 141))))) (spaced 142))))) ∷ []) (Some (otherwise (lined 143) ((step (only (name_atom (called "value'" (spaced 144))))) ∷ []))) (spaced 145))))) ∷ []) [] (lined 146))))) ∷ []) (lined 147) None

  unfoldable pub spawn : Made said_declared
  spawn = function (called "spawn'" (lined 148)) (tight 149) (Some (parameter (called "b'" (tight 150)) (tight 151) (arrow (no_type (spaced 152) (tight 153)) (spaced 154) (type_named (called "Any" (spaced 155)))))) (tight 156) (tight 157) (type_of (called "Thread" (spaced 158))) (spaced 159) (only (form (do_ (spaced 160) ((entry (local (called "t'" (lined 161)) (tight 162) (type_of (called "Thread'" (spaced 163))) (spaced 164) (value (flat (run (name_atom (called "Thread'" (spaced 165))) ((beside (parens (tight 166) (only (name_atom (called "b'" (tight 167)))) (tight 168))) ∷ [])) []))) None) ∷ (step (open_ (atomic (lined 169)) (just (form (do_ (spaced 170) ((step (only (form (if_ (lined 171) (flat (run (name_atom (called "count'" (spaced 172))) []) ((operate op.Eq (spaced 173) (run (number 64 (spaced 174)) [])) ∷ [])) (spaced 175) ((step (open_ (throw (spaced 176)) (just (name_atom (called "TooManyThreads" (spaced 177)))))) ∷ []) None (spaced 178))))) ∷ (step (assign (just (name_atom (called "count'" (lined 179)))) (assign_sign.AddBecomes (spaced 180)) (just (number 1 (spaced 181))))) ∷ (step (assign (just (name_atom (called "open'" (lined 182)))) (assign_sign.AddBecomes (spaced 183)) (just (number 1 (spaced 184))))) ∷ (step (assign (flat (run (name_atom (called "t'" (lined 185))) ((field (tight 186) (called "next'" (tight 187))) ∷ [])) []) (assign_sign.Becomes (spaced 188)) (just (name_atom (called "queue'" (spaced 189)))))) ∷ (step (assign (just (name_atom (called "queue'" (lined 190)))) (assign_sign.Becomes (spaced 191)) (just (name_atom (called "t'" (spaced 192)))))) ∷ []) [] (lined 193)))))) ∷ (step (only (name_atom (called "t'" (lined 194))))) ∷ []) [] (lined 195)))) None

  unfoldable pub take_ : Made said_declared
  take_ = function (called "take'" (lined 196)) (tight 197) None (tight 198) (tight 199) (type_of (called "Any" (spaced 200))) (spaced 201) (open_ (atomic (spaced 202)) (just (form (do_ (spaced 203) ((entry (local (called "q'" (lined 204)) (tight 205) (type_of (called "Any" (spaced 206))) (spaced 207) (only (name_atom (called "queue'" (spaced 208))))) None) ∷ (step (only (form (typecase (lined 209) (called "x'" (spaced 210)) (spaced 211) (just (name_atom (called "q'" (spaced 212)))) (spaced 213) ((clause (type_of (called "Thread'" (lined 214))) (spaced 215) (assign (just (name_atom (called "queue'" (spaced 216)))) (assign_sign.Becomes (spaced 217)) (flat (run (name_atom (called "x'" (spaced 218))) ((field (tight 219) (called "next'" (tight 220))) ∷ [])) [])) None) ∷ []) (else_ (lined 221) (spaced 222) (only (form (if_ (spaced 223) (flat (run (name_atom (called "open'" (spaced 224))) []) ((operate op.Gt (spaced 225) (run (number 0 (spaced 226)) [])) ∷ [])) (spaced 227) ((step (value (flat (run (name_atom (called "abort" (spaced 228))) ((beside (unit_atom (tight 229) (tight 230))) ∷ [])) []))) ∷ []) None (spaced 231))))) (lined 232))))) ∷ (step (only (name_atom (called "q'" (lined 233))))) ∷ []) [] (lined 234))))) None

  unfoldable pub go : Made said_declared
  go = function (called "go'" (lined 235)) (tight 236) (Some (parameter (called "t'" (tight 237)) (tight 238) (type_of (called "Thread'" (spaced 239))))) (tight 240) (tight 241) (no_result (spaced 242) (tight 243)) (spaced 244) (only (form (do_ (spaced 245) ((step (only (form (try_ (lined 246) ((entry (local (called "r'" (lined 247)) (tight 248) (type_of (called "Any" (spaced 249))) (spaced 250) (value (flat (run (parens (spaced 251) (value (flat (run (name_atom (called "t'" (tight 252))) ((field (tight 253) (called "body'" (tight 254))) ∷ [])) [])) (tight 255)) ((beside (unit_atom (tight 256) (tight 257))) ∷ [])) []))) None) ∷ (step (assign (flat (run (name_atom (called "t'" (lined 258))) ((field (tight 259) (called "value'" (tight 260))) ∷ [])) []) (assign_sign.Becomes (spaced 261)) (just (name_atom (called "r'" (spaced 262)))))) ∷ (step (assign (flat (run (name_atom (called "t'" (lined 263))) ((field (tight 264) (called "state'" (tight 265))) ∷ [])) []) (assign_sign.Becomes (spaced 266)) (just (number 1 (spaced 267))))) ∷ []) (catch (lined 268) (called "e'" (spaced 269)) ((clause (type_of (called "Exception" (lined 270))) (spaced 271) (only (form (do_ (spaced 272) ((entry (item (assign (flat (run (name_atom (called "t'" (spaced 273))) ((field (tight 274) (called "value'" (tight 275))) ∷ [])) []) (assign_sign.Becomes (spaced 276)) (just (name_atom (called "e'" (spaced 277)))))) (Some (tight 278))) ∷ (step (assign (flat (run (name_atom (called "t'" (spaced 279))) ((field (tight 280) (called "state'" (tight 281))) ∷ [])) []) (assign_sign.Becomes (spaced 282)) (just (number 2 (spaced 283))))) ∷ []) [] (spaced 284)))) None) ∷ [])) (lined 285))))) ∷ (step (open_assign (atomic (lined 286)) (just (name_atom (called "open'" (spaced 287)))) (assign_sign.SubtractBecomes (spaced 288)) (just (number 1 (spaced 289))))) ∷ []) [] (lined 290)))) None

  unfoldable pub serve : Made said_declared
  serve = function (called "serve'" (lined 291)) (tight 292) None (tight 293) (tight 294) (no_result (spaced 295) (tight 296)) (spaced 297) (only (form (do_ (spaced 298) ((entry (local (called "q'" (lined 299)) (tight 300) (type_of (called "Any" (spaced 301))) (spaced 302) (value (flat (run (name_atom (called "take'" (spaced 303))) ((beside (unit_atom (tight 304) (tight 305))) ∷ [])) []))) None) ∷ (step (only (form (typecase (lined 306) (called "x'" (spaced 307)) (spaced 308) (just (name_atom (called "q'" (spaced 309)))) (spaced 310) ((clause (type_of (called "Thread'" (spaced 311))) (spaced 312) (value (flat (run (name_atom (called "go'" (spaced 313))) ((beside (parens (tight 314) (only (name_atom (called "x'" (tight 315)))) (tight 316))) ∷ [])) [])) (Some (tight 317))) ∷ []) (else_ (spaced 318) (spaced 319) (only (unit_atom (spaced 320) (tight 321)))) (spaced 322))))) ∷ []) [] (lined 323)))) None

  unfoldable pub main : Option Spot → Made said_declared
  main semicolon = function (called "main'" (lined 324)) (tight 325) (Some (parameter (called "b'" (tight 326)) (tight 327) (arrow (no_type (spaced 328) (tight 329)) (spaced 330) (no_type (spaced 331) (tight 332))))) (tight 333) (tight 334) (no_result (spaced 335) (tight 336)) (spaced 337) (only (form (if_ (spaced 338) (just (name_atom (called "started'" (spaced 339)))) (spaced 340) ((step (value (flat (run (name_atom (called "b'" (spaced 341))) ((beside (unit_atom (tight 342) (tight 343))) ∷ [])) []))) ∷ []) (Some (otherwise (spaced 344) ((step (assign (just (name_atom (called "started'" (lined 345)))) (assign_sign.Becomes (spaced 346)) (just (yes (spaced 347))))) ∷ (step (assign (just (name_atom (called "open'" (lined 348)))) (assign_sign.Becomes (spaced 349)) (just (number 1 (spaced 350))))) ∷ (entry (local (called "m'" (lined 351)) (tight 352) (type_of (called "Thread'" (spaced 353))) (spaced 354) (value (flat (run (name_atom (called "Thread'" (spaced 355))) ((beside (parens (tight 356) (only (name_atom (called "b'" (tight 357)))) (tight 358))) ∷ [])) []))) None) ∷ (step (only (form (do_ (lined 359) ((step (value (flat (run (name_atom (called "go'" (spaced 360))) ((beside (parens (tight 361) (only (name_atom (called "m'" (tight 362)))) (tight 363))) ∷ [])) []))) ∷ []) ((also (spaced 364) (spaced 365) ((step (only (form (for_ (spaced 366) (called "i'" (spaced 367)) (spaced 368) (flat (run (number 0 (spaced 369)) []) ((operate op.Count (tight 370) (run (number 64 (tight 371)) [])) ∷ [])) (spaced 372) ((step (value (flat (run (name_atom (called "serve'" (spaced 373))) ((beside (unit_atom (tight 374) (tight 375))) ∷ [])) []))) ∷ []) (spaced 376))))) ∷ [])) ∷ []) (spaced 377))))) ∷ (entry (local (called "r'" (lined 378)) (tight 379) (type_of (called "Any" (spaced 380))) (spaced 381) (value (flat (run (name_atom (called "m'" (spaced 382))) ((method_call (tight 383) (called "val" (tight 384)) (tight 385) (tight 386)) ∷ [])) []))) None) ∷ []))) (lined 387)))) semicolon

  unfoldable pub running : Made said_declared
  running = function (called "run" (lined 388)) (tight 389) None (tight 390) (tight 391) (no_result (spaced 392) (tight 393)) (spaced 394) (value (flat (run (name_atom (called "main'" (spaced 395))) ((beside (parens (tight 396) (open_ (fn_head (tight 397) (spaced 398) (tight 399) (spaced 400)) (flat (run (name_atom (called "run'" (spaced 401))) ((beside (unit_atom (tight 402) (tight 403))) ∷ [])) [])) (tight 404))) ∷ [])) [])) (Some (tight 405))

  -- The prelude of a component that starts.
  unfoldable pub that_starts : List (Made said_declared)
  that_starts =
      queue ∷ opened ∷ counted ∷ started ∷ too_many ∷ thread ∷ thread_object ∷ spawn ∷ take_ ∷ go
      ∷ serve ∷ main None ∷ running ∷ []

  -- The prelude of another one.
  unfoldable pub that_does_not : List (Made said_declared)
  that_does_not =
      queue ∷ opened ∷ counted ∷ started ∷ too_many ∷ thread ∷ thread_object ∷ spawn ∷ take_ ∷ go
      ∷ serve ∷ main (Some (tight 388)) ∷ []
