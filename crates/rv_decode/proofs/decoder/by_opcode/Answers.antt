-- Each arm's operations are those of the table's rows with its opcode.
use Rattle.std.proofs.Common.{◌∙◌, [], ◌∷◌, Some, None, refl, arith}
use Rattle.std.proofs.lemmas.Bool.Decides.{nat_tests}
use Rattle.rv_decode.specs.declared.op.Op.TheVariants.{Lui, Auipc, Jal}
use Rattle.rv_decode.specs.declared.format.Format.TheVariants.{R, I, S, B, U, J, Shift, Csr, CsrImmediate, Plain}
use Rattle.rv_decode.proofs.Narrow.{no_row}
use Rattle.rv_decode.proofs.Map.{as_decoded, by_opcode, by_funct3, by_funct7, shifts, by_whole, by_funct5, op_imm, csr_registers, csr_immediates}
use Rattle.rv_decode.proofs.decoder.by_opcode.Goals as goal

pub returns-in-55-clause-instruction : goal.returns-in-55-clause-instruction
returns-in-55-clause-instruction c = c.instruction.ensures.fields ∙ as_decoded c.args.w U (Some Lui) (by_opcode c.args.w 0x37 c.in-55.is refl)

pub returns-in-23-clause-instruction : goal.returns-in-23-clause-instruction
returns-in-23-clause-instruction c = c.instruction-in-23.ensures.fields ∙ as_decoded c.args.w U (Some Auipc) (by_opcode c.args.w 0x17 c.in-23.is refl)

pub returns-in-111-clause-instruction : goal.returns-in-111-clause-instruction
returns-in-111-clause-instruction c = c.instruction-in-111.ensures.fields ∙ as_decoded c.args.w J (Some Jal) (by_opcode c.args.w 0x6f c.in-111.is refl)

pub returns-in-103-clause-instruction : goal.returns-in-103-clause-instruction
returns-in-103-clause-instruction c = c.instruction-in-103.ensures.fields ∙ as_decoded c.args.w I c.jalr.result (c.jalr.ensures ∙ by_funct3 c.args.w c.field-funct3.result 0x67 c.field-funct3.ensures.value c.in-103.is refl)

pub returns-in-99-clause-instruction : goal.returns-in-99-clause-instruction
returns-in-99-clause-instruction c = c.instruction-in-99.ensures.fields ∙ as_decoded c.args.w B c.branch-funct3.result (c.branch-funct3.ensures ∙ by_funct3 c.args.w c.field-funct3.result 0x63 c.field-funct3.ensures.value c.in-99.is refl)

pub returns-in-3-clause-instruction : goal.returns-in-3-clause-instruction
returns-in-3-clause-instruction c = c.instruction-in-3.ensures.fields ∙ as_decoded c.args.w I c.load.result (c.load.ensures ∙ by_funct3 c.args.w c.field-funct3.result 0x3 c.field-funct3.ensures.value c.in-3.is refl)

pub returns-in-35-clause-instruction : goal.returns-in-35-clause-instruction
returns-in-35-clause-instruction c = c.instruction-in-35.ensures.fields ∙ as_decoded c.args.w S c.store.result (c.store.ensures ∙ by_funct3 c.args.w c.field-funct3.result 0x23 c.field-funct3.ensures.value c.in-35.is refl)

pub returns-in-15-clause-instruction : goal.returns-in-15-clause-instruction
returns-in-15-clause-instruction c = c.instruction-in-15.ensures.fields ∙ as_decoded c.args.w Plain c.misc_mem.result (c.misc_mem.ensures ∙ by_funct3 c.args.w c.field-funct3.result 0xf c.field-funct3.ensures.value c.in-15.is refl)

pub returns-in-51-clause-instruction : goal.returns-in-51-clause-instruction
returns-in-51-clause-instruction c = c.instruction-in-51.ensures.fields ∙ as_decoded c.args.w R c.op.result (c.op.ensures ∙ by_funct7 c.args.w c.field.result c.field-funct3.result 0x33 c.field.ensures.value c.field-funct3.ensures.value c.in-51.is refl)

pub returns-in-19-clause-instruction : goal.returns-in-19-clause-instruction
returns-in-19-clause-instruction c = c.instruction-in-19.ensures.fields ∙ as_decoded c.args.w Shift c.shift.result (c.shift.ensures ∙ shifts c.args.w c.field-in-19.result c.field-funct3.result c.field-in-19.ensures.value c.field-funct3.ensures.value c.in-19.is c.field-funct3.ensures.bound (omega arith))

pub returns-in-19-2-clause-instruction : goal.returns-in-19-2-clause-instruction
returns-in-19-2-clause-instruction c = c.instruction-in-19-2.ensures.fields ∙ as_decoded c.args.w I c.immediate.result (c.immediate.ensures ∙ op_imm c.args.w c.field-funct3.result c.field-funct3.ensures.value c.in-19.is c.field-funct3.ensures.bound (λ is. grind arith))

pub returns-in-115-clause-instruction : goal.returns-in-115-clause-instruction
returns-in-115-clause-instruction c = c.instruction-in-115.ensures.fields ∙ as_decoded c.args.w Plain c.privileged.result (c.privileged.ensures ∙ by_whole c.args.w c.field-funct3.result (omega arith) c.field-funct3.ensures.value c.in-115.is c.if-funct3-eq0.true)

pub returns-in-115-2-clause-instruction : goal.returns-in-115-2-clause-instruction
returns-in-115-2-clause-instruction c = c.instruction-in-115-2.ensures.fields ∙ as_decoded c.args.w Csr c.csr.result (c.csr.ensures ∙ csr_registers c.args.w c.field-funct3.result c.field-funct3.ensures.value c.in-115.is c.if-funct3-lt4.true c.if-funct3-eq0.false)

pub returns-in-115-3-clause-instruction : goal.returns-in-115-3-clause-instruction
returns-in-115-3-clause-instruction c = c.instruction-in-115-3.ensures.fields ∙ as_decoded c.args.w CsrImmediate c.csr_immediate.result (c.csr_immediate.ensures ∙ csr_immediates c.args.w c.field-funct3.result c.field-funct3.ensures.value c.in-115.is c.field-funct3.ensures.bound c.if-funct3-lt4.false)

pub returns-in-47-clause-instruction : goal.returns-in-47-clause-instruction
returns-in-47-clause-instruction c = c.instruction-in-47.ensures.fields ∙ as_decoded c.args.w R c.amo.result (c.amo.ensures ∙ by_funct5 c.args.w c.field-in-47.result c.field-in-47-2.result c.field-funct3.result c.field-in-47.ensures.value c.field-in-47-2.ensures.value c.field-funct3.ensures.value c.in-47.is)

pub returns-in_default-clause-instruction : goal.returns-in_default-clause-instruction
returns-in_default-clause-instruction c = as_decoded c.args.w Plain None (no_row c.args.w 0x7f (0x37 ∷ 0x17 ∷ 0x6f ∷ 0x67 ∷ 0x63 ∷ 0x03 ∷ 0x23 ∷ 0x0f ∷ 0x13 ∷ 0x33 ∷ 0x73 ∷ 0x2f ∷ []) refl (grind (arith, nat_tests)))
